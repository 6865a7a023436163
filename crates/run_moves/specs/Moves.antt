-- The move of the multipliers in place.
use Rattle.std.specs.Prelude.{◌≡◌, Bool, ◌||◌, List, [], ℤ, pos, ◌+ℤ◌, ◌*ℤ◌}
use Rattle.std.proofs.Math.Path.{refl}
use Rattle.std.proofs.Math.Bool.{true, false, cond}
use Rattle.std.proofs.Common.{true≢false, eq-or-lt_of_le, le_of_suc-le-suc, not-suc-le-zero, SFits}
use Rattle.std.proofs.Math.Logic.{inl, inr}
use Prim.Native.Nat.{ℕ, zero, suc, ◌≤◌, ◌<◌}
use Rattle.std.specs.Int.Signed.{lt_z}
use Rattle.std.specs.Int.{w64}
use Rattle.rules.specs.Notation.{any_below, tabulate, at}
use Rattle.rules.specs.Problem.{Problem}
use Rattle.rules.specs.Step.{moved, diverged}
use Rattle.proof_laws.specs.Below.{any_found}
use Rattle.sheet_figures.specs.declared.Figures.{Figures}
use Rattle.sheet_figures.specs.Figures.{problem_of}
use Rattle.run_totals.specs.Changed.{Changed}

-- the problem of the figures, where no coefficient plays a part
abbrev pub limits_of : Figures → Problem
limits_of f = problem_of f []

-- the move asks that p times the residuals g fit, and the multipliers M before they are cut at 0
pub record MoveFits (P : Problem) (M g : ℕ → ℤ) : Type 0 where
  pub few : P.limits ≤ 16
  pub numerator : P.numerator ≤ 1024
  pub scaled : (i : ℕ) → i < P.limits → SFits w64 (pos P.numerator *ℤ g i)
  pub uncut : (i : ℕ) → i < P.limits → SFits w64 (M i +ℤ pos P.numerator *ℤ g i)

-- the first place below n that meets a test, or n where none does
unfoldable pub places_before : ℕ → (ℕ → Bool) → ℕ
places_before zero test = 0
places_before (suc n) test = cond (any_below n test) (places_before n test) (cond (test n) n (suc n))

-- is the multiplier of limit i after the move too large?
abbrev pub too_large : Problem → (M g : ℕ → ℤ) → ℕ → Bool
too_large P M g i = lt_z (pos 1073741824) (at (tabulate P.limits (moved P M g)) i)

-- The multipliers as lent and afterwards, and whether one diverged: those before the first that did are moved, and the
-- others are as lent.
pub record Moved (P : Problem) (g : ℕ → ℤ) (old new : List ℤ) (result : Bool) : Type 0 where
  pub test : result ≡ diverged P (tabulate P.limits (moved P (at old) g))
  pub places : Changed (places_before P.limits (too_large P (at old) g)) (moved P (at old) g) old new

-- ---- laws of the places
module _ (test : ℕ → Bool) where
  -- no place meets the test
  pub places-all : (n : ℕ) → any_below n test ≡ false → places_before n test ≡ n
  unfolding places_before any_below
  places-all zero h = refl
  places-all (suc n) h = by (any_below n test) (test n) h
    where
      by : (a b : Bool) → a || b ≡ false → cond a (places_before n test) (cond b n (suc n)) ≡ suc n
      by true b h = absurd (true≢false h)
      by false true h = absurd (true≢false h)
      by false false h = refl

  -- place i is the first that does
  pub places-found : {i : ℕ} (n : ℕ) → i < n → any_below i test ≡ false → test i ≡ true → places_before n test ≡ i
  unfolding places_before
  places-found zero l before here = absurd (not-suc-le-zero l)
  places-found {i} (suc n) l before here = elim (eq-or-lt_of_le (le_of_suc-le-suc l)) [
    | inl e ↦ rw (← e, before, here) refl
    | inr k ↦ rw (any_found test n k here) (places-found n k before here)
  ]
