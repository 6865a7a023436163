-- TASK.md, T9.3 to T9.7: one claim of the answer to a sheet. This is the statement; the proof is the crate
-- `proof_margins`.
use Rattle.std.specs.Prelude.{◌≡◌, List, ℕ, ◌<◌, ℤ, pos, ◌+ℤ◌, ◌-ℤ◌, ◌*ℤ◌, ◌≤ℤ◌}
use Rattle.rules.specs.Notation.{sum_to, at}
use Rattle.rules.specs.Problem.{Problem, cost_of, Feasible, NoneFeasible}
use Rattle.rules.specs.Sheet.{sheet_of, problem}
use Rattle.rules.specs.Run.{look_after, plan_after}
use Rattle.rules.specs.Answers.{Outcome, plan, refused}

abbrev pub square : ℤ → ℤ
square z = z *ℤ z

-- T9.8, the margins of one plan, that after k steps, with the printed low and gap.
pub record PlanMargins (P : Problem) (k : ℕ) (low gap : ℤ) : Type 0 where
  -- T9.3, over every feasible point y/d: d·low ≤ D·cost of y, so that none costs less than low/D
  pub lower : (d : ℤ) (y : ℕ → ℤ) → Feasible P d y → (d *ℤ low) ≤ℤ (pos P.scale *ℤ cost_of P y)
  -- T9.4, over every feasible point y/d: d·D·cost of the sums − k·D·cost of y ≤ d·gap
  pub excess : (d : ℤ) (y : ℕ → ℤ) → Feasible P d y →
      (d *ℤ (pos P.scale *ℤ cost_of P (at (plan_after P k).sums)) -ℤ pos k *ℤ (pos P.scale *ℤ cost_of P y))
      ≤ℤ (d *ℤ gap)
  -- T9.5, for each limit i: p·residual total ≤ closing multiplier − starting multiplier
  pub residual_totals : (i : ℕ) → i < P.limits →
      (pos P.numerator *ℤ at (plan_after P k).residual_totals i)
      ≤ℤ (at (plan_after P k).multipliers i -ℤ P.starting_multiplier i)
  -- T9.6: 2·p·gap + Σ_i (closing multiplier)² ≤ Σ_i (starting multiplier)² + p²·Σ_t Σ_i residual², over steps 0 to k−1
  pub squares :
      (pos 2 *ℤ pos P.numerator *ℤ gap +ℤ sum_to P.limits (λ i. square (at (plan_after P k).multipliers i)))
      ≤ℤ (sum_to P.limits (λ i. square (P.starting_multiplier i))
      +ℤ square (pos P.numerator)
      *ℤ sum_to k (λ t. sum_to P.limits (λ i. square (at (look_after P t).residuals i))))

-- A plan has its margins; and T9.7: where the answer is refusal 9 ("no blend"), at whatever place, there is no feasible
-- point. Nothing is said the other way round (T7.6).
unfoldable pub Margins : List ℕ → Outcome → Type 0
Margins s (plan low gap) = PlanMargins (problem (sheet_of s)) (sheet_of s).sizes.steps low gap
Margins s (refused r) = r.number ≡ 9 → NoneFeasible (problem (sheet_of s))
