-- Tests at every place, and tests at the keys of a table.
use Rattle.std.specs.Prelude.{◌≡◌, Bool, false, get_or}
use Rattle.std.proofs.Math.Path.{refl, sym, ap, ap₂}
use Rattle.std.proofs.Common.{◌∙◌, lt-suc_self}
use Rattle.std.proofs.Math.Bool.{◌||◌, or-false}
use mathlib.Core.List.{[], ◌∷◌, ◌++◌}
use Rattle.std.proofs.Math.Option.{Option, none}
use Prim.Native.Nat.{ℕ, zero, suc, ◌<◌}
use Rattle.std.proofs.Math.Nat.{le_step}
use native.Mathlib.Omega.{arith}
use Rattle.std.proofs.Math.ListN.{length, length-append, get_or-append}
use Rattle.std.proofs.Math.Seq.{get_or-append_seam}
use Rattle.proof_laws.specs.Below.{any-cong}
use Rattle.rules.specs.Notation.{any_below}
use Rattle.rules.specs.Sheet.{Table}
use Rattle.rules.specs.Encoder.{all_keys, keys_of}
use Rattle.rules.specs.Refusals.{Numbered, ◌otherwise◌, first_below}
use Rattle.sheet_written.specs.Picked.{picked-induction}
use Rattle.sheet_written.specs.Support.{present, support}

-- where no place is refused, there is no first one
pub first-none-below : (n : ℕ) (test : ℕ → Option Numbered) → ((i : ℕ) → i < n → test i ≡ none)
    → first_below n test ≡ none
unfolding first_below ◌otherwise◌
first-none-below zero test h = refl
first-none-below (suc n) test h =
    ap₂ ◌otherwise◌ (first-none-below n test (λ i l. h i (le_step l))) (h n (lt-suc_self n))

-- a test that no figure 0 passes is passed at a key of the table where it is passed at all
module _ (T : Table) (test : ℕ → Bool) (absent : (q : ℕ) → present (T q) ≡ false → test q ≡ false) where
  -- of those below `room`
  any-support : (room : ℕ)
      → any_below (length (support room T)) (λ i. test (get_or (support room T) i 0)) ≡ any_below room test
  unfolding any_below
  any-support =
      picked-induction (λ q. present (T q))
      (λ n xs. any_below (length xs) (λ i. test (get_or xs i 0)) ≡ any_below n test)
      refl
      (λ n h before.
      let xs = support n T in
      let count : length (xs ++ (n ∷ [])) ≡ suc (length xs) = length-append xs (n ∷ []) ∙ omega arith in
      ap (λ (c : ℕ). any_below c (λ i. test (get_or (xs ++ (n ∷ [])) i 0))) count
      ∙ ap₂ ◌||◌
      (any-cong (length xs) _ _ (λ i l. ap test (get_or-append xs (n ∷ []) 0 i l)) ∙ before)
      (ap test (get_or-append_seam xs n [] 0)))
      (λ n h before. before ∙ sym (rw (absent n h) (or-false (any_below n test))))

  -- of all
  pub any-keys : any_below (length (keys_of T)) (λ i. test (get_or (keys_of T) i 0)) ≡ any_below all_keys test
  unfolding keys_of
  any-keys = any-support all_keys
