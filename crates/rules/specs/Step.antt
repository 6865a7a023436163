-- TASK.md, T4: the dual subgradient method of source document 004, (7) and (8), with a step length that is constant. A
-- step is a look at the multipliers that enter it, refusal 9, the move of the multipliers, refusal 10, and the totals.
use Rattle.std.specs.Prelude.{ℕ, Bool, cond, List, ℤ, pos, ◌+ℤ◌, ◌-ℤ◌, ◌*ℤ◌}
use Rattle.std.specs.Int.Signed.{lt_z}
use Rattle.rules.specs.Notation.{any_below, maxℤ, sum_to, tabulate, at}
use Rattle.rules.specs.Problem.{Problem, cost_of, load_of}

-- T4.9, the state of the run: before any step, and after each.
pub record State : Type 0 where
  -- T4.1, M_i
  pub multipliers : List ℤ
  -- T5.1, S_j, the sums of the amounts
  pub sums : List ℤ
  -- T5.2, G_i ("overshoot")
  pub residual_totals : List ℤ
  -- T5.3, low so far
  pub lower_bound : ℤ

-- What a look at multipliers gives.
pub record Look : Type 0 where
  -- T4.3, x_j
  pub amounts : List ℤ
  -- T4.4, g_i
  pub residuals : List ℤ
  -- T4.5, V
  pub dual_value : ℤ

-- In the formulas M is the multiplier of each limit, x the amount of each material, and g the residual of each limit.
module _ (P : Problem) where
  -- T4.2, the reduced cost ("weight") of material j: D·c_j + Σ_i M_i·a_ij
  unfoldable pub reduced_cost : (ℕ → ℤ) → ℕ → ℤ
  reduced_cost M j = pos P.scale *ℤ P.cost j +ℤ sum_to P.limits (λ i. M i *ℤ P.coefficient i j)

  -- T4.3, the amount ("step amount"): u_j where the reduced cost is below 0, else l_j
  unfoldable pub amount : (ℕ → ℤ) → ℕ → ℤ
  amount M j = cond (lt_z (reduced_cost M j) (pos 0)) (P.most j) (P.least j)

  -- T4.4, the residual ("miss") of limit i: Σ_j a_ij·x_j − b_i
  unfoldable pub residual : (ℕ → ℤ) → ℕ → ℤ
  residual x i = load_of P x i -ℤ P.rhs i

  -- T4.5, the dual value ("step value"), D times the dual function: D·cost + Σ_i M_i·residual_i
  unfoldable pub dual_value : (ℕ → ℤ) → (ℕ → ℤ) → ℤ
  dual_value M x = pos P.scale *ℤ cost_of P x +ℤ sum_to P.limits (λ i. M i *ℤ residual x i)

  -- the look at multipliers M
  unfoldable pub look_at : (ℕ → ℤ) → Look
  look_at M =
      let x = tabulate P.materials (amount M) in
      record {
        amounts = x;
        residuals = tabulate P.limits (residual (at x));
        dual_value = dual_value M (at x);
      }

  -- T4.6, C, the greatest ("dearest") cost within the bounds: u_j where c_j > 0, else l_j
  unfoldable pub greatest_cost : ℤ
  greatest_cost = cost_of P (λ j. cond (lt_z (pos 0) (P.cost j)) (P.most j) (P.least j))

  -- T5.3, B, the cheapest cost within the bounds: u_j where c_j < 0, else l_j
  unfoldable pub cheapest_cost : ℤ
  cheapest_cost = cost_of P (λ j. cond (lt_z (P.cost j) (pos 0)) (P.most j) (P.least j))

  -- T4.6, refusal 9: the dual value is above D times the greatest cost
  unfoldable pub infeasible : Look → Bool
  infeasible q = lt_z (pos P.scale *ℤ greatest_cost) q.dual_value

  -- T4.7, the multiplier of limit i after the step: max(0, M_i + p·residual_i)
  unfoldable pub moved : (ℕ → ℤ) → (ℕ → ℤ) → ℕ → ℤ
  moved M g i = maxℤ (pos 0) (M i +ℤ pos P.numerator *ℤ g i)

  -- T4.7, T4.9, the state that the step from w hands on: all multipliers move at once, and the totals grow
  unfoldable pub next : State → State
  next w =
      let q = look_at (at w.multipliers) in
      record {
        multipliers = tabulate P.limits (moved (at w.multipliers) (at q.residuals));
        sums = tabulate P.materials (λ j. at w.sums j +ℤ at q.amounts j);
        residual_totals = tabulate P.limits (λ i. at w.residual_totals i +ℤ at q.residuals i);
        lower_bound = maxℤ w.lower_bound q.dual_value;
      }

  -- T4.8, refusal 10: one of the multipliers after the step is above 2^30
  unfoldable pub diverged : List ℤ → Bool
  diverged multipliers = any_below P.limits (λ i. lt_z (pos 1073741824) (at multipliers i))
