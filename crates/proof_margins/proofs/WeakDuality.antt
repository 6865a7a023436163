-- Weak duality: a step's dual value is no more than the cost of any feasible point. Source document 004 has it, for one
-- point, in the proof of Lemma 1: q(μ) ≤ f(x̄) + μ'g(x̄), where the last term is not positive for μ ≥ 0 and g(x̄) ≤ 0.
-- Two things follow: when there is no feasible point (T9.7), and what a lower bound of the feasible costs says of the
-- excess of an average (T9.4).
use Rattle.std.specs.Prelude.{[], ◌∷◌, ℕ, ◌<◌, ℤ, ◌+ℤ◌, ◌-ℤ◌, ◌*ℤ◌, ◌≤ℤ◌, ◌<ℤ◌}
use Rattle.std.proofs.Common.{arith}
use Rattle.std.proofs.Math.IntN.{pos}
use Rattle.proof_integer.specs.Parts.{difs, as-dif}
use Rattle.proof_integer.specs.Order.{≤ℤ-trans, *ℤ-mono-l, pos-nonneg, gap-mul, <ℤ-suc}
use Rattle.proof_integer.specs.Solve.{lit, ◌⊕◌, ◌⊖◌, ◌⊗◌, ◌≼◌, ◌≺◌, never, ◌⊢◌, omegaℤ}
use Rattle.proof_integer.specs.Sum.{sum_to-mono, sum_to-none}
use Rattle.rules.specs.Problem.{Problem, cost_of, load_of, Feasible, NoneFeasible}
use Rattle.rules.specs.Step.{dual_value, greatest_cost}
use Rattle.proof_magnitudes.specs.Minimal.{WithinBounds, feasible-within}
use Rattle.proof_margins.specs.Lagrangian.{lagrangian}
use Rattle.proof_margins.proofs.FourFacts.{FourFacts}
use Rattle.proof_magnitudes.proofs.CostRange.{cost-below}

module _ {P : Problem} {M x M' : ℕ → ℤ} (facts : FourFacts P M x M') where
  -- by F1, d·V ≤ D·c·y where no term M_i·(a_i·y − d·b_i) of the Lagrangian is above 0
  without-terms : (d : ℤ) (y : ℕ → ℤ) → WithinBounds P d y
      → ((i : ℕ) → i < P.limits → (M i *ℤ (load_of P y i -ℤ d *ℤ P.rhs i)) ≤ℤ pos 0)
      → (d *ℤ dual_value P M x) ≤ℤ (pos P.scale *ℤ cost_of P y)
  unfolding lagrangian
  without-terms d y within terms =
      drop _ _ _ (facts.minimum d y within) (simp sum_to-none at (sum_to-mono P.limits _ (λ _. pos 0) terms))
    where
      drop : (v c s : ℤ) → v ≤ℤ (c +ℤ s) → s ≤ℤ pos 0 → v ≤ℤ c
      drop v c s = rw (as-dif v, as-dif c, as-dif s) (simp difs (omega arith))

  -- weak duality, d·V ≤ D·c·y: by F4, the term of a limit that is kept is not above 0
  pub weak-duality : (d : ℤ) (y : ℕ → ℤ) → Feasible P d y → (d *ℤ dual_value P M x) ≤ℤ (pos P.scale *ℤ cost_of P y)
  weak-duality d y f =
      without-terms d y (feasible-within f) (λ i l.
      kept (M i) (load_of P y i) (d *ℤ P.rhs i) (gap-mul (facts.sign i l) (f.within i l)))
    where
      kept : (M r e : ℤ) → pos 0 ≤ℤ ((M -ℤ pos 0) *ℤ (e -ℤ r)) → (M *ℤ (r -ℤ e)) ≤ℤ pos 0
      kept = omegaℤ 3 (λ M r e. (lit 0 ≼ (M ⊖ lit 0) ⊗ (e ⊖ r)) ∷ [] ⊢ M ⊗ (r ⊖ e) ≼ lit 0) (omega arith)

  -- a dual value above D times the greatest cost leaves no feasible point
  pub none-feasible : (pos P.scale *ℤ greatest_cost P) <ℤ dual_value P M x → NoneFeasible P
  none-feasible above d y f =
      clash (pos P.scale) d (greatest_cost P) (dual_value P M x) f.divisor above
      (≤ℤ-trans (weak-duality d y f) greatest)
    where
      greatest : (pos P.scale *ℤ cost_of P y) ≤ℤ (pos P.scale *ℤ (d *ℤ greatest_cost P))
      greatest = *ℤ-mono-l (pos-nonneg P.scale) (cost-below P d y (feasible-within f))

      clash : (D d G v : ℤ) → pos 0 <ℤ d → (D *ℤ G) <ℤ v → (d *ℤ v) ≤ℤ (D *ℤ (d *ℤ G)) → ⊥
      clash D d G v hd hv =
          omegaℤ 4 (λ D d G v.
          (lit 0 ≼ (d ⊖ lit 1) ⊗ (v ⊖ (D ⊗ G ⊕ lit 1))) ∷ (lit 0 ≺ d) ∷ (D ⊗ G ≺ v) ∷ (d ⊗ v ≼ D ⊗ (d ⊗ G)) ∷ []
          ⊢ never) (omega arith)
          D d G v (gap-mul ((<ℤ-suc (pos 0) d).0 hd) ((<ℤ-suc (D *ℤ G) v).0 hv)) hd hv

-- the excess of a total C over W times a cost Y with d·low ≤ Y: d·C − W-as-Y ≤ d·(C − W·low)
pub excess : (W : ℕ) (d C Y low : ℤ) → (d *ℤ low) ≤ℤ Y → (d *ℤ C -ℤ pos W *ℤ Y) ≤ℤ (d *ℤ (C -ℤ pos W *ℤ low))
excess W d C Y low h =
    omegaℤ 5 (λ W d C Y low. (lit 0 ≼ (W ⊖ lit 0) ⊗ (Y ⊖ d ⊗ low)) ∷ [] ⊢ d ⊗ C ⊖ W ⊗ Y ≼ d ⊗ (C ⊖ W ⊗ low))
    (omega arith) (pos W) d C Y low (gap-mul (pos-nonneg W) h)
