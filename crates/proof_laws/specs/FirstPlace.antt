-- The chain of refusals and the first place (T7.3), as code meets them: a test that passes hands on, and a loop ends at
-- the first place that is refused.
use Rattle.std.specs.Prelude.{◌≡◌, Bool, true, false}
use Rattle.std.proofs.Math.Path.{refl}
use Rattle.std.proofs.Common.{ap₂, eq-or-lt_of_le, le_of_suc-le-suc, not-suc-le-zero, lt-suc_self, add-one}
use Rattle.std.proofs.Math.Option.{Option, none, some}
use Rattle.std.proofs.Math.Logic.{inl, inr}
use Prim.Native.Nat.{ℕ, zero, suc, ◌+◌, ◌<◌}
use Rattle.std.proofs.Math.Nat.{le_step}
use Rattle.rules.specs.Refusals.{Numbered, refuse, ◌otherwise◌, first_below}

-- ---- one refusal, with its number and its place
module _ (number place : ℕ) where
  pub refuse-yes : {test : Bool} → test ≡ true
      → refuse number place test ≡ some (record { number = number; place = place })
  unfolding refuse
  refuse-yes h = rw h

  pub refuse-no : {test : Bool} → test ≡ false → refuse number place test ≡ none
  unfolding refuse
  refuse-no h = rw h

-- ---- the chain
pub given : {a : Option Numbered} {r : Numbered} (b : Option Numbered) → a ≡ some r → a otherwise b ≡ some r
unfolding ◌otherwise◌
given b h = rw h

pub handed-on : {a : Option Numbered} (b : Option Numbered) → a ≡ none → a otherwise b ≡ b
unfolding ◌otherwise◌
handed-on b h = rw h

-- ---- the first place
-- only the places below n count
pub first_cong : (n : ℕ) (test other : ℕ → Option Numbered) → ((i : ℕ) → i < n → test i ≡ other i)
    → first_below n test ≡ first_below n other
unfolding first_below
first_cong zero test other h = refl
first_cong (suc n) test other h =
    ap₂ ◌otherwise◌ (first_cong n test other (λ i l. h i (le_step l))) (h n (lt-suc_self n))

module _ (test : ℕ → Option Numbered) where
  pub first-start : first_below 0 test ≡ none
  unfolding first_below
  first-start = refl

  pub first_more : {j : ℕ} → first_below j test ≡ none → test j ≡ none → first_below (j + 1) test ≡ none
  unfolding first_below ◌otherwise◌
  first_more {j} before here = rw (add-one, before) here

  pub first_found : {j : ℕ} {r : Numbered} (n : ℕ) → j < n → first_below j test ≡ none → test j ≡ some r
      → first_below n test ≡ some r
  unfolding first_below ◌otherwise◌
  first_found zero l before here = absurd (not-suc-le-zero l)
  first_found {j} (suc n) l before here = elim (eq-or-lt_of_le (le_of_suc-le-suc l)) [
    | inl e ↦ rw (← e, before) here
    | inr k ↦ rw (first_found n k before here)
  ]

  pub first-end : {j n : ℕ} → j ≡ n → first_below j test ≡ none → first_below n test ≡ none
  first-end e h = rw e at h

-- ---- the same for one refusal, tested at each place
module _ (number : ℕ) (bad : ℕ → Bool) where
  abbrev pub scan : ℕ → Option Numbered
  scan n = first_below n (λ i. refuse number i (bad i))

  pub scan-more : {j : ℕ} → scan j ≡ none → bad j ≡ false → scan (j + 1) ≡ none
  scan-more {j} before here = first_more (λ i. refuse number i (bad i)) before (refuse-no number j here)

  pub scan-found : {j : ℕ} (n : ℕ) → j < n → scan j ≡ none → bad j ≡ true
      → scan n ≡ some (record { number = number; place = j })
  scan-found {j} n l before here = first_found (λ i. refuse number i (bad i)) n l before (refuse-yes number j here)
