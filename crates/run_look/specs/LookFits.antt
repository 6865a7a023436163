-- What a look at multipliers M asks: there is room in the arrays, and every term, part of a sum and result fits its
-- width.
use Rattle.std.specs.Prelude.{◌≡◌, List, ℕ, ◌≤◌, ◌<◌, ℤ, pos, ◌*ℤ◌, replicate}
use Rattle.std.specs.Int.{w32, w64}
use Rattle.std.proofs.Common.{SFits}
use Rattle.rules.specs.Notation.{at}
use Rattle.rules.specs.Problem.{Problem, cost_of}
use Rattle.rules.specs.Step.{residual, look_at}
use Rattle.run_sums.specs.SumsFit.{SumFits}
use Rattle.run_amounts.specs.Amounts.{AmountsFit}
use Rattle.run_costs.specs.Costs.{CostFits}

-- the loads and residuals of amounts x, and an array of zeros for the residuals
pub record ResidualsFit (P : Problem) (x : ℕ → ℤ) (residuals : List ℤ) : Type 0 where
  pub empty : residuals ≡ replicate 16 (pos 0)
  pub narrow : P.materials ≤ 32
  pub few : P.limits ≤ 16
  pub load : (i : ℕ) → i < P.limits → SumFits w32 (pos 0) (λ j. P.coefficient i j *ℤ x j) P.materials
  pub whole : (i : ℕ) → i < P.limits → SFits w32 (residual P x i)

-- the whole look: the amounts, their residuals, their cost, and the dual value
pub record LookFits (P : Problem) (M : ℕ → ℤ) (amounts residuals : List ℤ) : Type 0 where
  pub amounts-fit : AmountsFit P M amounts
  pub residuals-fit : ResidualsFit P (at (look_at P M).amounts) residuals
  pub cost : CostFits P (at (look_at P M).amounts)
  pub value : SumFits w64 (pos P.scale *ℤ cost_of P (at (look_at P M).amounts))
      (λ i. M i *ℤ at (look_at P M).residuals i) P.limits
