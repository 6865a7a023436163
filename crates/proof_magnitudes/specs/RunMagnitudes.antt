-- How large the figures of a run become, as long as no step is refused: of every state, and of the look and the step
-- that it enters; and, where the closing look is not refused either, of the plan. Low lies from D times the cheapest to
-- D times the greatest cost that the bounds leave (T4.6).
use Rattle.std.specs.Prelude.{pos, ◌+ℤ◌, ◌*ℤ◌}
use Prim.Native.Nat.{ℕ, ◌<◌}
use Rattle.rules.specs.Notation.{at}
use Rattle.rules.specs.Problem.{Problem}
use Rattle.rules.specs.Run.{state_after, closing_value, low_after, gap_of}
use Rattle.proof_magnitudes.specs.CostRange.{InCostRange}
use Rattle.proof_magnitudes.specs.Steps.{entering, amounts, residuals}
use Rattle.proof_magnitudes.specs.Magnitudes.{Fits64, CostMagnitudes, StepMagnitudes}

-- The state after t steps (T4.9), and the cost of its sums.
pub record StateMagnitudes (P : Problem) (t : ℕ) : Type 0 where
  pub multiplier : (i : ℕ) → i < P.limits → Fits64 (entering P t i) 1073741824
  pub sum : (j : ℕ) → j < P.materials → Fits64 (at (state_after P t).sums j) 4096000
  pub residual-total : (i : ℕ) → i < P.limits → Fits64 (at (state_after P t).residual_totals i) 262144000000
  -- where the bound of low so far comes from
  pub low-range : InCostRange P (state_after P t).lower_bound
  pub low : Fits64 (state_after P t).lower_bound 327680000000
  pub sums-cost : CostMagnitudes P (at (state_after P t).sums) 4096000

-- After t steps: the state, the look and the step that it enters, and what that step adds to the totals. Of the state
-- after the last step the look is the closing look.
pub record RunMagnitudes (P : Problem) (t : ℕ) : Type 0 where
  pub state : StateMagnitudes P t
  pub step : StepMagnitudes P (entering P t) (amounts P t)
  pub new-sum : (j : ℕ) → j < P.materials → Fits64 (at (state_after P t).sums j +ℤ amounts P t j) 4097000
  pub new-total : (i : ℕ) → i < P.limits
      → Fits64 (at (state_after P t).residual_totals i +ℤ residuals P t i) 262208000000

-- The plan after t steps: low with the closing value, and the gap, D·Σ_j c_j·S_j − t·low.
pub record PlanMagnitudes (P : Problem) (t : ℕ) : Type 0 where
  pub state : StateMagnitudes P t
  -- T5.8
  pub closing-value : Fits64 (closing_value P t) 1099511955456000000
  -- T5.3, and where its bound comes from
  pub low-range : InCostRange P (low_after P t)
  pub low : Fits64 (low_after P t) 327680000000
  -- T5.4
  pub counted-low : Fits64 (pos t *ℤ low_after P t) 1342177280000000
  pub gap : Fits64 (gap_of P t (low_after P t) (at (state_after P t).sums)) 2684354560000000
