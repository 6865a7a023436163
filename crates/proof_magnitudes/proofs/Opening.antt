-- The lower bound before any step is D times the cheapest cost (T5.3). Where multipliers begin at 0, that is the dual
-- value of step 0: so low is then the largest dual value.
use Rattle.std.specs.Prelude.{◌≡◌, refl, ℕ, ◌<◌, ◌≤◌, ℤ, ◌*ℤ◌}
use Rattle.std.proofs.Math.Path.{sym, ap}
use Rattle.std.proofs.Common.{◌∙◌}
use Rattle.std.proofs.Math.Bool.{cond}
use Rattle.std.proofs.Math.IntN.{pos}
use Rattle.proof_integer.specs.Order.{max_cases}
use Rattle.proof_integer.specs.Sum.{sum_to-cong}
use Rattle.rules.specs.Problem.{Problem, cost_of}
use Rattle.rules.specs.Step.{reduced_cost, amount, look_at, cheapest_cost, next}
use Rattle.rules.specs.Run.{starting_state, state_after, look_after}
use Rattle.proof_magnitudes.specs.CostRange.{cheapest_end}
use Rattle.proof_magnitudes.specs.Steps.{entering, amounts, entering-first, amounts-are}
use Rattle.proof_magnitudes.specs.Opening.{same_sign, nothing-added, value-at-zero}

module _ (P : Problem) (M : ℕ → ℤ) (at_zero : (i : ℕ) → i < P.limits → M i ≡ pos 0) where
  -- where multipliers are 0, the amounts are those of the cheapest cost
  amount-at-zero : 1 ≤ P.scale → (j : ℕ) → amount P M j ≡ cheapest_end P j
  unfolding amount reduced_cost
  amount-at-zero some j =
      rw (nothing-added P M at_zero (pos P.scale *ℤ P.cost j) (λ i. P.coefficient i j))
      (ap (λ b. cond b (P.most j) (P.least j)) (same_sign P.scale (P.cost j) some))

-- ---- the run of a problem with starts of 0
module _ (P : Problem) (some : 1 ≤ P.scale)
    (unstarted : (i : ℕ) → i < P.limits → P.starting_multiplier i ≡ pos 0) where
  entering-zero : (i : ℕ) → i < P.limits → entering P 0 i ≡ pos 0
  entering-zero i l = entering-first P i l ∙ unstarted i l

  -- the dual value of step 0 is D times the cheapest cost
  pub first-value : (look_after P 0).dual_value ≡ pos P.scale *ℤ cheapest_cost P
  unfolding look_after look_at cheapest_cost cost_of
  first-value =
      value-at-zero P (entering P 0) entering-zero (amounts P 0)
      ∙ ap (λ z. pos P.scale *ℤ z)
      (sum_to-cong P.materials _ _ (λ j l.
      ap (λ x. P.cost j *ℤ x) (amounts-are P 0 j l ∙ amount-at-zero P (entering P 0) entering-zero some j)))

  -- so that it is the lower bound after step 0
  pub first-bound : (state_after P 1).lower_bound ≡ (look_after P 0).dual_value
  unfolding state_after starting_state next look_after
  first-bound = max_cases _ _ (λ low. low ≡ (look_after P 0).dual_value) (λ _. refl) (λ _. sym first-value)
