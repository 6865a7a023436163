-- Figures of a plan that fit the bytes that a record has for them (T6.1).
use Rattle.std.specs.Prelude.{◌≡◌, ℕ, ◌<◌, length}
use Rattle.std.proofs.Common.{SFits}
use Rattle.std.specs.Int.{w32, w64}
use Rattle.rules.specs.Notation.{at}
use Rattle.rules.specs.Run.{Plan}

-- the figures are as many as the plan's sizes say, and each fits its bytes
pub record PlanFits (p : Plan) : Type 0 where
  pub materials : p.materials < 65536
  pub limits : p.limits < 65536
  pub steps : p.steps < 65536
  pub low : SFits w64 p.low
  pub gap : SFits w64 p.gap
  pub sums-length : length p.sums ≡ p.materials
  pub multipliers-length : length p.multipliers ≡ p.limits
  pub totals-length : length p.residual_totals ≡ p.limits
  pub sum : (j : ℕ) → j < p.materials → SFits w32 (at p.sums j)
  pub multiplier : (i : ℕ) → i < p.limits → SFits w32 (at p.multipliers i)
  pub total : (i : ℕ) → i < p.limits → SFits w64 (at p.residual_totals i)
