-- No point within the bounds costs less than the cheapest cost that they leave (T4.6), and none more than the greatest.
use Rattle.std.specs.Prelude.{ℕ, ℤ, pos, ◌*ℤ◌, ◌≤ℤ◌}
use Rattle.std.proofs.Math.IntN.{neg_ℤ}
use Rattle.std.specs.Int.Signed.{lt_z, lt_z_yes, lt_z_no}
use Rattle.proof_integer.specs.Order.{<ℤ→≤ℤ, negℤ-≤ℤ, *ℤ-mono-l, pos-nonneg}
use Rattle.proof_integer.specs.Ring.{neg-*ℤ, *ℤ-neg, one-*ℤ}
use Rattle.proof_integer.specs.Sum.{sum_to-neg}
use Rattle.rules.specs.Problem.{Problem, cost_of}
use Rattle.rules.specs.Step.{greatest_cost, cheapest_cost}
use Rattle.proof_magnitudes.specs.Minimal.{AllMinimal, choice-minimal, rule-minimal, WithinBounds, sum-least}
use Rattle.proof_magnitudes.specs.CostRange.{cheapest_end, greatest_end, InCostRange}

module _ (P : Problem) where
  -- the ends that cost least minimise the costs c, and those that cost most −c
  pub cheapest-minimal : AllMinimal P P.cost (cheapest_end P)
  cheapest-minimal j _ = rule-minimal (P.cost j) (P.least j) (P.most j)

  pub greatest-minimal : AllMinimal P (λ j. neg_ℤ (P.cost j)) (greatest_end P)
  greatest-minimal j _ =
      choice-minimal (lt_z (pos 0) (P.cost j)) (neg_ℤ (P.cost j)) (P.least j) (P.most j)
      (λ t. (negℤ-≤ℤ (P.cost j) (pos 0)).1 (<ℤ→≤ℤ (lt_z_yes t)))
      (λ t. (negℤ-≤ℤ (pos 0) (P.cost j)).1 (lt_z_no t))

  module _ (d : ℤ) (y : ℕ → ℤ) (within : WithinBounds P d y) where
    -- d·cheapest ≤ c·y
    pub cost-above : (d *ℤ cheapest_cost P) ≤ℤ cost_of P y
    unfolding cheapest_cost cost_of
    cost-above = sum-least P P.cost (cheapest_end P) cheapest-minimal d y within

    -- c·y ≤ d·greatest
    pub cost-below : cost_of P y ≤ℤ (d *ℤ greatest_cost P)
    unfolding greatest_cost cost_of
    cost-below =
        (negℤ-≤ℤ _ _).0
        (simp (neg-*ℤ, sum_to-neg, *ℤ-neg) at
        (sum-least P (λ j. neg_ℤ (P.cost j)) (greatest_end P) greatest-minimal d y within))

-- D times the cost of whole amounts within the bounds lies in the range of the costs
pub cost-in-range : (P : Problem) (x : ℕ → ℤ) → WithinBounds P (pos 1) x → InCostRange P (pos P.scale *ℤ cost_of P x)
cost-in-range P x within = record {
  above = *ℤ-mono-l (pos-nonneg P.scale) (rw one-*ℤ at (cost-above P (pos 1) x within));
  below = *ℤ-mono-l (pos-nonneg P.scale) (rw one-*ℤ at (cost-below P (pos 1) x within));
}
