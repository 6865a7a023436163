-- What the functions ask that work out costs: there is room, and every term, part of a sum and result fits its width.
use Rattle.std.specs.Prelude.{ℕ, ◌≤◌, ℤ, pos, ◌*ℤ◌}
use Rattle.std.specs.Int.{w32, w64}
use Rattle.std.proofs.Common.{SFits}
use Rattle.proof_integer.specs.Range.{Bnd}
use Rattle.rules.specs.Problem.{Problem, cost_of}
use Rattle.rules.specs.Run.{gap_of}
use Rattle.run_ends.specs.SignedEnds.{signed_end}
use Rattle.run_sums.specs.SumsFit.{SumFits}

-- the cost of amounts x, and D times it
pub record CostFits (P : Problem) (x : ℕ → ℤ) : Type 0 where
  pub narrow : P.materials ≤ 32
  pub scale : P.scale ≤ 1024
  pub sum : SumFits w32 (pos 0) (λ j. P.cost j *ℤ x j) P.materials
  pub scaled : SFits w64 (pos P.scale *ℤ cost_of P x)

-- the cost at the ends by a sign, which is 1 or −1
pub record SignedEndsFit (sign : ℤ) (P : Problem) : Type 0 where
  pub unit : Bnd sign 1
  pub cost : CostFits P (signed_end sign P)

-- the gap of a count of steps, a low and sums s
pub record GapFits (P : Problem) (count : ℕ) (low : ℤ) (s : ℕ → ℤ) : Type 0 where
  pub narrow : P.materials ≤ 32
  pub scale : P.scale ≤ 1024
  pub few : count ≤ 4096
  pub sum : SumFits w64 (pos 0) (λ j. P.cost j *ℤ s j) P.materials
  pub scaled : SFits w64 (pos P.scale *ℤ cost_of P s)
  pub counted : SFits w64 (pos count *ℤ low)
  pub whole : SFits w64 (gap_of P count low s)
