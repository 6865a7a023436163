-- Every plan has its margins: weak duality gives low (T9.3) and the excess (T9.4), Proposition 1(a) the residual totals
-- (T9.5), and Proposition 1(b) the squares (T9.6).
use Rattle.std.specs.Prelude.{◌≡◌, ℕ, ◌*ℤ◌}
use Rattle.std.proofs.Math.Path.{ap}
use Rattle.proof_integer.specs.Sum.{sum_to-cong}
use Rattle.rules.specs.Notation.{sum_to, at}
use Rattle.rules.specs.Problem.{Problem, cost_of}
use Rattle.rules.specs.Step.{residual}
use Rattle.rules.specs.Run.{state_after, low_after, gap_of, plan_after}
use Rattle.rules.specs.Margins.{square, PlanMargins}
use Rattle.proof_magnitudes.specs.Steps.{entering, amounts, residuals, entering-first, residuals-are, StartSign}
use Rattle.proof_magnitudes.specs.Steps.{sums-are, totals-are}
use Rattle.proof_margins.proofs.WeakDuality.{excess}
use Rattle.proof_margins.proofs.IterateRelation.{norm²}
use Rattle.proof_margins.proofs.Violation.{proposition-1a}
use Rattle.proof_margins.proofs.PrimalCost.{proposition-1b}
use Rattle.proof_margins.proofs.RunSteps.{steps, low-above-values, low-below-costs}

module _ (P : Problem) where
  -- ---- the figures of a plan are those of its steps
  starting-squares : norm² P (entering P 0) ≡ norm² P P.starting_multiplier
  starting-squares = sum_to-cong P.limits _ _ (λ i l. ap square (entering-first P i l))

  cost-of-sums : (k : ℕ) → cost_of P (at (state_after P k).sums) ≡ cost_of P (λ j. sum_to k (λ t. amounts P t j))
  unfolding cost_of
  cost-of-sums k = sum_to-cong P.materials _ _ (λ j l. ap (λ a. P.cost j *ℤ a) (sums-are P k j l))

  squared-residuals : (k : ℕ)
      → sum_to k (λ t. norm² P (residuals P t)) ≡ sum_to k (λ t. norm² P (residual P (amounts P t)))
  squared-residuals k = sum_to-cong k _ _ (λ t _. sum_to-cong P.limits _ _ (λ i l. ap square (residuals-are P t i l)))

  pub plan-margins : StartSign P → (k : ℕ)
      → PlanMargins P k (low_after P k) (gap_of P k (low_after P k) (at (state_after P k).sums))
  unfolding gap_of plan_after
  plan-margins start-sign k = record {
    lower = low-below-costs P start-sign k;
    excess = λ d y f. excess k d _ _ _ (low-below-costs P start-sign k d y f);
    residual_totals = λ i l.
        rw (totals-are P k i l) (rw (entering-first P i l) at (proposition-1a (steps P start-sign k) i l));
    squares =
        rw (cost-of-sums k, squared-residuals k)
        (rw starting-squares at
        (proposition-1b (steps P start-sign k) (low_after P k) (low-above-values P k)));
  }
