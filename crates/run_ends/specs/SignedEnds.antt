-- The ends of the bounds that the costs of the materials choose, or, by the sign −1, their opposites; and what choosing
-- them asks.
use Rattle.std.specs.Prelude.{◌≡◌, ℕ, ◌≤◌, ℤ, pos, ◌*ℤ◌}
use mathlib.Core.List.{List, [], replicate}
use Rattle.proof_integer.specs.Range.{Bnd}
use Rattle.rules.specs.Problem.{Problem}
use Rattle.sheet_figures.specs.declared.Figures.{Figures}
use Rattle.sheet_figures.specs.Figures.{problem_of}
use Rattle.run_ends.specs.Ends.{end_by}

-- the problem of the figures, where no coefficient plays a part
abbrev pub materials_of : Figures → Problem
materials_of f = problem_of f []

-- the end of the bounds of material j that its cost times a sign chooses: with 1 the cheapest, with −1 the greatest
abbrev pub signed_end : ℤ → Problem → ℕ → ℤ
signed_end sign P j = end_by (sign *ℤ P.cost j) (P.least j) (P.most j)

-- ends by a sign, which is 1 or −1, into an array of zeros
pub record EndsFit (n : ℕ) (sign : ℤ) (ends : List ℤ) : Type 0 where
  pub empty : ends ≡ replicate 32 (pos 0)
  pub narrow : n ≤ 32
  pub unit : Bnd sign 1
