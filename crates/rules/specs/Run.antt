-- TASK.md, T5: the run of k steps from the starting multipliers, the look that closes it, and the plan that it gives.
use Rattle.std.specs.Prelude.{ℕ, zero, suc, List, ℤ, pos, ◌-ℤ◌, ◌*ℤ◌}
use Rattle.rules.specs.Notation.{maxℤ, tabulate, at}
use Rattle.rules.specs.Problem.{Problem, cost_of}
use Rattle.rules.specs.Step.{State, Look, look_at, cheapest_cost, next}

-- The figures of a plan, as the record and the listing give them.
pub record Plan : Type 0 where
  -- n
  pub materials : ℕ
  -- m
  pub limits : ℕ
  -- k
  pub steps : ℕ
  -- T5.3
  pub low : ℤ
  -- T5.4
  pub gap : ℤ
  -- T5.1, S_j
  pub sums : List ℤ
  -- T5.5, the closing multipliers M_i
  pub multipliers : List ℤ
  -- T5.2, G_i
  pub residual_totals : List ℤ

module _ (P : Problem) where
  -- The state before any step. T4.1: multipliers begin at the starts. T5.3: low begins at D·cheapest cost.
  unfoldable pub starting_state : State
  starting_state = record {
    multipliers = tabulate P.limits P.starting_multiplier;
    sums = tabulate P.materials (λ j. pos 0);
    residual_totals = tabulate P.limits (λ i. pos 0);
    lower_bound = pos P.scale *ℤ cheapest_cost P;
  }

  -- T5.7, the state after t steps, whether or not one of them is refused: `run_refusal` says where the run ends
  unfoldable pub state_after : ℕ → State
  state_after zero = starting_state
  state_after (suc t) = next P (state_after t)

  -- the look at the multipliers after t steps: what step t works out, and what closes a run of t steps
  unfoldable pub look_after : ℕ → Look
  look_after t = look_at P (at (state_after t).multipliers)

  -- T5.8, the closing value after c steps: the dual value at the multipliers that they leave, with no step more
  unfoldable pub closing_value : ℕ → ℤ
  closing_value c = (look_after c).dual_value

  -- T5.3, low after c steps: the largest of D·cheapest cost, their dual values, and the closing value
  unfoldable pub low_after : ℕ → ℤ
  low_after c = maxℤ (state_after c).lower_bound (closing_value c)

  -- T5.4, gap of a count of steps, a low and sums: D·cost of the sums − count·low
  unfoldable pub gap_of : ℕ → ℤ → (ℕ → ℤ) → ℤ
  gap_of count low sums = pos P.scale *ℤ cost_of P sums -ℤ pos count *ℤ low

  -- T5.1 to T5.5, the plan after k steps
  unfoldable pub plan_after : ℕ → Plan
  plan_after k =
      let w = state_after k in
      record {
        materials = P.materials;
        limits = P.limits;
        steps = k;
        low = low_after k;
        gap = gap_of k (low_after k) (at w.sums);
        sums = w.sums;
        multipliers = w.multipliers;
        residual_totals = w.residual_totals;
      }
