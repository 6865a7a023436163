-- Arrays that are not refused.
use Rattle.std.specs.Prelude.{◌≡◌, List, ℕ, ◌≤◌, ℤ, length}
use Rattle.std.proofs.Math.Option.{none}
use Rattle.std.proofs.Math.Nat.{mul-le-mul}
use native.Mathlib.Omega.{arith}
use Rattle.std.proofs.lemmas.Bool.{not-false}
use Rattle.rules.specs.Notation.{at}
use Rattle.rules.specs.declared.Sizes.{Sizes}
use Rattle.rules_arrays.specs.Arrays.{Arrays, table_refusal, arrays_refusal}
use Rattle.rules_arrays.specs.ReadBack.{present_in, figures_present}
use Rattle.proof_laws.specs.NotRefused.{otherwise-none, refuse-false}
use Rattle.proof_laws.specs.Sizes.{SizesInRange, dimensions}
use Rattle.sheet_arrays.specs.Lengths.{LengthsMatch, lengths-match}
use Rattle.sheet_arrays.specs.Counted.{counted-few, present-is}

module _ (z : Sizes) (A : Arrays) (accepted : arrays_refusal z A ≡ none) where
  pub lengths-in : LengthsMatch z.shape A
  unfolding arrays_refusal
  lengths-in =
      let (lengths, _) = otherwise-none _ _ accepted in
      lengths-match z.shape A (not-false _ (refuse-false 2 0 _ lengths))

  pub shape-in : SizesInRange z.shape 0
  unfolding arrays_refusal table_refusal
  shape-in =
      let (_, table) = otherwise-none _ _ accepted in
      let (shape, _) = otherwise-none _ _ table in
      dimensions z.shape 0 (not-false _ (refuse-false 2 0 _ shape))

  -- at most 640 figures are not 0
  few-of : (xs : List ℤ) {n : ℕ} → length xs ≡ n → present_in xs ≤ n
  few-of xs {n} e = omega (arith, present-is xs e, counted-few n (at xs))

  pub few-present : figures_present A ≤ 640
  unfolding figures_present
  few-present =
      let product = mul-le-mul shape-in.narrow shape-in.few in
      omega (
        arith,
        product,
        shape-in.narrow,
        shape-in.few,
        few-of A.costs lengths-in.costs,
        few-of A.least_amounts lengths-in.least_amounts,
        few-of A.most_amounts lengths-in.most_amounts,
        few-of A.coefficients lengths-in.coefficients,
        few-of A.right_hand_sides lengths-in.right_hand_sides,
        few-of A.starts lengths-in.starts,
      )
