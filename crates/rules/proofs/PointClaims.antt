-- What the margins of a plan say at the recipes of Points, in numbers. These follow from `Feasible` there, and stand in
-- a file of their own so that an edit of a definition fails at that, and is read.
use Rattle.std.specs.Prelude.{ℤ, pos, ◌*ℤ◌, ◌≤ℤ◌}
use Rattle.rules.specs.Notation.{neg}
use Rattle.rules.specs.Margins.{PlanMargins}
use Rattle.rules.specs.Rows.{Holds}
use Rattle.rules.specs.Points.{P₁, P₃, wholes, wholes-feasible, halves, halves-feasible, one, negative-feasible}

-- ---- C1
-- of every low: 1·low ≤ 8·13, and 2·low ≤ 8·27. The low of C1 meets the first with equality
pub lower-says : (low gap : ℤ) → PlanMargins P₁ 4 low gap
    → ((pos 1 *ℤ low) ≤ℤ pos 104) × ((pos 2 *ℤ low) ≤ℤ pos 216)
unfolding Holds
lower-says low gap claim = (claim.lower (pos 1) wholes wholes-feasible, claim.lower (pos 2) halves halves-feasible)

-- of every gap: 1·8·50 − 4·8·13 ≤ 1·gap, and 2·8·50 − 4·8·27 ≤ 2·gap. The gap of C1 meets the first with equality
pub excess-says : (low gap : ℤ) → PlanMargins P₁ 4 low gap
    → (neg 16 ≤ℤ (pos 1 *ℤ gap)) × (neg 64 ≤ℤ (pos 2 *ℤ gap))
unfolding Holds
excess-says low gap claim = (claim.excess (pos 1) wholes wholes-feasible, claim.excess (pos 2) halves halves-feasible)

-- the recipe (1, 10) costs 13, so that a low of 105 is refuted by it
pub low-105 : (gap : ℤ) → PlanMargins P₁ 4 (pos 105) gap → ⊥
unfolding Holds
low-105 gap claim = (claim.lower (pos 1) wholes wholes-feasible).le

-- and a gap of −17
pub gap-17 : (low : ℤ) → PlanMargins P₁ 4 low (neg 17) → ⊥
unfolding Holds
gap-17 low claim = (claim.excess (pos 1) wholes wholes-feasible).le

-- ---- C8 with D = 3
-- of every low and gap: 2·low ≤ 3·(−12), and 2·3·(−12) − 2·3·(−12) ≤ 2·gap
pub negative-says : (low gap : ℤ) → PlanMargins P₃ 2 low gap
    → ((pos 2 *ℤ low) ≤ℤ neg 36) × (pos 0 ≤ℤ (pos 2 *ℤ gap))
unfolding Holds
negative-says low gap claim =
    (claim.lower (pos 2) (one (pos 6)) negative-feasible, claim.excess (pos 2) (one (pos 6)) negative-feasible)
