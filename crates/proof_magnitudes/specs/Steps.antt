-- The run of `rules` by its formulas: what the look at the multipliers after t steps gives, where they go, and what the
-- totals add up.
use Rattle.std.specs.Prelude.{◌≡◌, ℤ, ◌+ℤ◌, ◌≤ℤ◌}
use Rattle.std.proofs.Math.Path.{refl}
use Rattle.std.proofs.Common.{◌∙◌}
use Prim.Native.Nat.{ℕ, zero, suc, ◌<◌}
use Rattle.std.proofs.Math.IntN.{pos}
use Rattle.proof_integer.specs.Order.{max-left}
use Rattle.proof_integer.specs.Vector.{at-tabulate}
use Rattle.rules.specs.Notation.{sum_to, at}
use Rattle.rules.specs.Problem.{Problem}
use Rattle.rules.specs.Step.{amount, residual, look_at, moved, next}
use Rattle.rules.specs.Run.{starting_state, state_after, look_after, closing_value, low_after}

module _ (P : Problem) where
  -- the multipliers that enter step t, its amounts and its residuals
  abbrev pub entering : ℕ → ℕ → ℤ
  entering t = at (state_after P t).multipliers

  abbrev pub amounts : ℕ → ℕ → ℤ
  amounts t = at (look_after P t).amounts

  abbrev pub residuals : ℕ → ℕ → ℤ
  residuals t = at (look_after P t).residuals

  -- the starting multipliers enter step 0
  pub entering-first : (i : ℕ) → i < P.limits → entering 0 i ≡ P.starting_multiplier i
  unfolding state_after starting_state
  entering-first i l = at-tabulate P.limits P.starting_multiplier i l

  -- ---- what a step works out, by its formulas
  pub amounts-are : (t j : ℕ) → j < P.materials → amounts t j ≡ amount P (entering t) j
  unfolding look_after look_at
  amounts-are t j l = at-tabulate P.materials (amount P (entering t)) j l

  pub residuals-are : (t i : ℕ) → i < P.limits → residuals t i ≡ residual P (amounts t) i
  unfolding look_after look_at
  residuals-are t i l = at-tabulate P.limits (residual P (amounts t)) i l

  pub leaving : (t i : ℕ) → i < P.limits → entering (suc t) i ≡ moved P (entering t) (residuals t) i
  unfolding state_after next look_after
  leaving t i l = at-tabulate P.limits (moved P (entering t) (residuals t)) i l

  -- ---- the totals
  pub sums-are : (k j : ℕ) → j < P.materials → at (state_after P k).sums j ≡ sum_to k (λ t. amounts t j)
  unfolding state_after starting_state next sum_to look_after
  sums-are zero j l = at-tabulate P.materials (λ _. pos 0) j l
  sums-are (suc k) j l =
      at-tabulate P.materials (λ j. at (state_after P k).sums j +ℤ amounts k j) j l ∙ rw (sums-are k j l)

  pub totals-are : (k i : ℕ) → i < P.limits
      → at (state_after P k).residual_totals i ≡ sum_to k (λ t. residual P (amounts t) i)
  unfolding state_after starting_state next sum_to look_after
  totals-are zero i l = at-tabulate P.limits (λ _. pos 0) i l
  totals-are (suc k) i l =
      at-tabulate P.limits (λ i. at (state_after P k).residual_totals i +ℤ residuals k i) i l
      ∙ rw (totals-are k i l, residuals-are k i l)

  -- ---- low after c steps, which counts the look at step c, is the lower bound that step c hands on
  pub low-handed-on : (c : ℕ) → low_after P c ≡ (state_after P (suc c)).lower_bound
  unfolding low_after closing_value state_after next look_after
  low-handed-on c = refl

-- no starting multiplier is negative
abbrev pub StartSign : Problem → Type 0
StartSign P = (i : ℕ) → i < P.limits → pos 0 ≤ℤ P.starting_multiplier i

-- and then none that enters a step
pub entering-sign : (P : Problem) → StartSign P → (t i : ℕ) → i < P.limits → pos 0 ≤ℤ entering P t i
unfolding moved
entering-sign P start-sign zero i l = rw (entering-first P i l) (start-sign i l)
entering-sign P start-sign (suc t) i l = rw (leaving P t i l) (max-left (pos 0) _)
