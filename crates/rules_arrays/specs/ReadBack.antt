-- TASK.md, T13.7 to T13.10: what is promised of a sheet that is written from plain arrays.
use Rattle.std.specs.Prelude.{ℕ, ◌+◌, ◌*◌, ◌/◌, ◌%◌, ◌<◌, ◌≡◌, not, cond, List, length, ℤ, eqb}
use Rattle.std.proofs.Math.Option.{Option, none, some}
use Rattle.rules.specs.Notation.{is_zero, tabulate, at}
use Rattle.rules.specs.declared.Sizes.{Sizes}
use Rattle.rules.specs.Problem.{Problem}
use Rattle.rules.specs.Sheet.{sheet_of, problem}
use Rattle.rules.specs.Encoder.{picked}
use Rattle.rules.specs.Refusals.{Numbered, layout_refusal}
use Rattle.rules_arrays.specs.Arrays.{Arrays}

-- The figures of a problem are those of the arrays.
pub record SameFigures (P : Problem) (A : Arrays) : Type 0 where
  pub cost : (j : ℕ) → j < P.materials → P.cost j ≡ at A.costs j
  pub least : (j : ℕ) → j < P.materials → P.least j ≡ at A.least_amounts j
  pub most : (j : ℕ) → j < P.materials → P.most j ≡ at A.most_amounts j
  pub coefficient : (i j : ℕ) → i < P.limits → j < P.materials
      → P.coefficient i j ≡ at A.coefficients (P.materials * i + j)
  pub rhs : (i : ℕ) → i < P.limits → P.rhs i ≡ at A.right_hand_sides i
  pub starting_multiplier : (i : ℕ) → i < P.limits → P.starting_multiplier i ≡ at A.starts i

-- T13.7, T13.8: bytes are read (T7.5), and what is read is these sizes and figures.
pub record ReadsAs (z : Sizes) (A : Arrays) (s : List ℕ) : Type 0 where
  pub accepted : layout_refusal s ≡ none
  pub sizes : (sheet_of s).sizes ≡ z
  pub figures : SameFigures (problem (sheet_of s)) A

-- T13.8, the figures of a problem in plain arrays
unfoldable pub arrays_of : Problem → Arrays
arrays_of P =
    let n = P.materials in
    let m = P.limits in
    record {
      costs = tabulate n P.cost;
      least_amounts = tabulate n P.least;
      most_amounts = tabulate n P.most;
      coefficients = tabulate (n * m) (λ x. P.coefficient (x / n) (x % n));
      right_hand_sides = tabulate m P.rhs;
      starts = tabulate m P.starting_multiplier;
    }

-- T13.9, a refusal, with the place 0 for 6
unfoldable pub unplaced : Option Numbered → Option Numbered
unplaced none = none
unplaced (some r) = some (record { number = r.number; place = cond (eqb r.number 6) 0 r.place })

-- T13.10, how many figures of an array are not 0
unfoldable pub present_in : List ℤ → ℕ
present_in xs = length (picked (length xs) (λ i. not (is_zero (at xs i))))

-- T13.10, and of all arrays
unfoldable pub figures_present : Arrays → ℕ
figures_present A =
    present_in A.costs
    + present_in A.least_amounts
    + present_in A.most_amounts
    + present_in A.coefficients
    + present_in A.right_hand_sides
    + present_in A.starts
