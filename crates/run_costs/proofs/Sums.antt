-- The products that the code adds are those of the cost of the sums.
use Rattle.std.specs.Prelude.{◌≡◌, List, ℕ, ◌+◌, ◌*◌, ℤ, pos, ◌+ℤ◌, ◌*ℤ◌}
use Rattle.std.proofs.Common.{arith, ◌∙◌}
use Rattle.std.proofs.Math.IntN.{*ℤ_comm, +ℤ_idl}
use Rattle.rules.specs.Notation.{sum_to, at}
use Rattle.rules.specs.Problem.{cost_of}
use Rattle.sheet_figures.specs.declared.Figures.{Figures}
use Rattle.run_ends.specs.SignedEnds.{materials_of}

module _ (f : Figures) (sums : List ℤ) where
  products : (i : ℕ) → at sums i *ℤ at f.cost (0 + 1 * i) ≡ at f.cost i *ℤ at sums i
  products i = λ k. *ℤ_comm (at sums i) (at f.cost (place i k)) k
    where
      place : (i : ℕ) → 0 + 1 * i ≡ i
      place i = omega arith

  pub cost-of-sums : {r : ℤ} → r ≡ pos 0 +ℤ sum_to f.materials (λ i. at sums i *ℤ at f.cost (0 + 1 * i))
      → r ≡ cost_of (materials_of f) (at sums)
  unfolding cost_of
  cost-of-sums e = e ∙ +ℤ_idl _ ∙ (λ k. sum_to f.materials (λ i. products i k))
