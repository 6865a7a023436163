-- The ends of the cheapest and the greatest cost that the bounds leave (T4.6), and the range between the two.
use Rattle.std.specs.Prelude.{cond, ℕ, ℤ, pos, ◌*ℤ◌, ◌≤ℤ◌}
use Rattle.std.specs.Int.Signed.{lt_z}
use Rattle.rules.specs.Problem.{Problem}
use Rattle.rules.specs.Step.{greatest_cost, cheapest_cost}

module _ (P : Problem) where
  -- the ends of the bounds at which material j costs least, and most
  abbrev pub cheapest_end : ℕ → ℤ
  cheapest_end j = cond (lt_z (P.cost j) (pos 0)) (P.most j) (P.least j)

  abbrev pub greatest_end : ℕ → ℤ
  greatest_end j = cond (lt_z (pos 0) (P.cost j)) (P.most j) (P.least j)

-- z lies from D times the cheapest to D times the greatest cost
pub record InCostRange (P : Problem) (z : ℤ) : Type 0 where
  pub above : (pos P.scale *ℤ cheapest_cost P) ≤ℤ z
  pub below : z ≤ℤ (pos P.scale *ℤ greatest_cost P)
