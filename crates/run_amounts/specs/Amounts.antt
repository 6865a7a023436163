-- What the amounts at multipliers M ask: there is room, and every term, part of a sum and result fits its width.
use Rattle.std.specs.Prelude.{◌≡◌, List, ℕ, ◌≤◌, ◌<◌, ℤ, pos, ◌*ℤ◌, replicate}
use Rattle.std.specs.Int.{w64}
use Rattle.std.proofs.Common.{SFits}
use Rattle.rules.specs.Problem.{Problem}
use Rattle.run_sums.specs.SumsFit.{SumFits}

-- the reduced cost of material j, at a cost c and a column a of coefficients
pub record ReducedCostFits (m D : ℕ) (c : ℤ) (a M : ℕ → ℤ) (j : ℕ) : Type 0 where
  pub inside : j < 32
  pub few : m ≤ 16
  pub scale : D ≤ 1024
  pub scaled-cost : SFits w64 (pos D *ℤ c)
  pub reduced : SumFits w64 (pos D *ℤ c) (λ i. M i *ℤ a i) m

-- that of material j of a problem
abbrev pub AmountFits : Problem → (ℕ → ℤ) → ℕ → Type 0
AmountFits P M j = ReducedCostFits P.limits P.scale (P.cost j) (λ i. P.coefficient i j) M j

-- those of all materials, and an array of zeros for the amounts
pub record AmountsFit (P : Problem) (M : ℕ → ℤ) (amounts : List ℤ) : Type 0 where
  pub empty : amounts ≡ replicate 32 (pos 0)
  pub narrow : P.materials ≤ 32
  pub each : (j : ℕ) → j < P.materials → AmountFits P M j
