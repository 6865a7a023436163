-- Tests that hold or fail, and what holds at every place below n.
use Rattle.std.specs.Prelude.{◌≡◌, Bool, true, false, not, ◌||◌, T}
use Rattle.std.proofs.Math.Path.{refl}
use Rattle.std.proofs.Common.{ap₂, eq-or-lt_of_le, le_of_suc-le-suc, not-suc-le-zero, lt-suc_self, add-one}
use Rattle.std.proofs.Math.Bool.{or-true}
use Rattle.std.proofs.Math.Logic.{inl, inr}
use Prim.Native.Nat.{ℕ, zero, suc, ◌+◌, ◌<◌}
use Rattle.std.proofs.Math.Nat.{le_step}
use Rattle.std.proofs.Math.Facts.{or_no}
use Rattle.rules.specs.Notation.{any_below}

-- a test that holds is true, and one that fails is false
pub holds : (b : Bool) → T b → b ≡ true
holds true t = refl
holds false t = absurd t

pub fails : (b : Bool) → T (not b) → b ≡ false
fails true t = absurd t
fails false t = refl

-- below 0 there is no place
pub below-zero : (Q : ℕ → Type 0) → (i : ℕ) → i < 0 → Q i
below-zero Q i l = absurd (not-suc-le-zero l)

-- what holds at every place below n, and at n, holds at every place below n + 1
pub below_suc : (n : ℕ) (Q : ℕ → Type 0) → ((i : ℕ) → i < n → Q i) → Q n → (i : ℕ) → i < suc n → Q i
below_suc n Q before here i l = elim (eq-or-lt_of_le (le_of_suc-le-suc l)) [ inl e ↦ rw e here | inr k ↦ before i k ]

-- only the places below n count
pub any-cong : (n : ℕ) (test other : ℕ → Bool) → ((i : ℕ) → i < n → test i ≡ other i)
    → any_below n test ≡ any_below n other
unfolding any_below
any-cong zero test other h = refl
any-cong (suc n) test other h = ap₂ ◌||◌ (any-cong n test other (λ i l. h i (le_step l))) (h n (lt-suc_self n))

-- where no place below n meets a test, each fails it
pub any_none : (n : ℕ) (test : ℕ → Bool) → T (not (any_below n test)) → (i : ℕ) → i < n → T (not (test i))
unfolding any_below
any_none zero test h = below-zero (λ i. T (not (test i)))
any_none (suc n) test h =
    let (before, here) = or_no (any_below n test) (test n) h in
    below_suc n (λ i. T (not (test i))) (any_none n test before) here

-- ---- a loop that looks for a place that meets a test
module _ (test : ℕ → Bool) where
  pub any-start : any_below 0 test ≡ false
  unfolding any_below
  any-start = refl

  pub any-more : {i : ℕ} → any_below i test ≡ false → test i ≡ false → any_below (i + 1) test ≡ false
  unfolding any_below
  any-more {i} before here = rw (add-one, before) here

  pub any_found : {i : ℕ} (n : ℕ) → i < n → test i ≡ true → any_below n test ≡ true
  unfolding any_below
  any_found zero l here = absurd (not-suc-le-zero l)
  any_found {i} (suc n) l here = elim (eq-or-lt_of_le (le_of_suc-le-suc l)) [
    | inl e ↦ rw (← e, here) (or-true (any_below i test))
    | inr k ↦ rw (any_found n k here) refl
  ]
