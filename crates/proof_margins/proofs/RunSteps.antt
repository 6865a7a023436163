-- The run of `rules`: each of its steps has the four facts, and low lies between the dual values and the costs of
-- feasible points.
use Rattle.std.specs.Prelude.{◌≡◌, ℤ, ◌+ℤ◌, ◌*ℤ◌, ◌≤ℤ◌}
use Rattle.std.proofs.Math.Path.{ap}
use Rattle.std.proofs.Common.{◌∙◌}
use Prim.Native.Nat.{ℕ, zero, suc, ◌<◌}
use Rattle.std.proofs.Math.IntN.{pos}
use Rattle.proof_integer.specs.Order.{≤ℤ-trans, *ℤ-mono-l, pos-nonneg, max_cases, max-left, max-right}
use Rattle.proof_integer.specs.Ring.{*ℤ-left-comm}
use Rattle.rules.specs.Notation.{maxℤ}
use Rattle.rules.specs.Problem.{Problem, Feasible, cost_of}
use Rattle.rules.specs.Step.{residual, dual_value, look_at, cheapest_cost, moved, next}
use Rattle.rules.specs.Run.{starting_state, state_after, look_after, low_after}
use Rattle.proof_laws.specs.Below.{below-zero, below_suc}
use Rattle.proof_magnitudes.specs.Minimal.{feasible-within}
use Rattle.proof_magnitudes.proofs.CostRange.{cost-above}
use Rattle.proof_magnitudes.specs.Steps.{entering, amounts, residuals-are, leaving}
use Rattle.proof_magnitudes.proofs.Steps.{amounts-minimal}
use Rattle.proof_magnitudes.specs.Steps.{StartSign, entering-sign, low-handed-on}
use Rattle.proof_margins.proofs.FourFacts.{FourFacts, Steps, four-facts}
use Rattle.proof_margins.proofs.WeakDuality.{weak-duality}

module _ (P : Problem) where
  -- the multipliers that leave step t, by the residuals of its amounts
  moved-by-residuals : (t i : ℕ) → i < P.limits
      → entering P (suc t) i ≡ moved P (entering P t) (residual P (amounts P t)) i
  unfolding moved
  moved-by-residuals t i l =
      leaving P t i l
      ∙ ap (λ g. maxℤ (pos 0) (entering P t i +ℤ pos P.numerator *ℤ g)) (residuals-are P t i l)

  -- ---- no dual value of the steps is above the lower bound that they leave, and so none is above low
  bound-above-values : (k t : ℕ) → t < k → dual_value P (entering P t) (amounts P t) ≤ℤ (state_after P k).lower_bound
  unfolding state_after next look_after look_at
  bound-above-values zero = below-zero (λ t. dual_value P (entering P t) (amounts P t) ≤ℤ (state_after P 0).lower_bound)
  bound-above-values (suc k) =
      below_suc k
      (λ t. dual_value P (entering P t) (amounts P t) ≤ℤ maxℤ (state_after P k).lower_bound (look_after P k).dual_value)
      (λ t l. ≤ℤ-trans (bound-above-values k t l) (max-left (state_after P k).lower_bound _))
      (max-right (state_after P k).lower_bound _)

  pub low-above-values : (k t : ℕ) → t < k → dual_value P (entering P t) (amounts P t) ≤ℤ low_after P k
  unfolding low_after
  low-above-values k t l = ≤ℤ-trans (bound-above-values k t l) (max-left (state_after P k).lower_bound _)

-- ---- what rests on starting multipliers that are not negative
module _ (P : Problem) (start-sign : StartSign P) where
  -- the four facts of every step
  pub facts : (t : ℕ) → FourFacts P (entering P t) (amounts P t) (entering P (suc t))
  facts t =
      four-facts P (entering P t) (amounts P t) (entering P (suc t))
      (amounts-minimal P t) (entering-sign P start-sign t) (moved-by-residuals P t)

  pub steps : (k : ℕ) → Steps P k (entering P) (amounts P)
  steps k t _ = facts t

  -- the lower bound is above the cost of no feasible point, as neither D times the cheapest cost nor any dual value is
  bound-below-costs : (k : ℕ) (d : ℤ) (y : ℕ → ℤ) → Feasible P d y
      → (d *ℤ (state_after P k).lower_bound) ≤ℤ (pos P.scale *ℤ cost_of P y)
  unfolding state_after starting_state next look_after look_at
  bound-below-costs zero = λ d y f.
      rw (*ℤ-left-comm d (pos P.scale) (cheapest_cost P))
      (*ℤ-mono-l (pos-nonneg P.scale) (cost-above P d y (feasible-within f)))
  bound-below-costs (suc k) = λ d y f.
      max_cases _ _ (λ low. (d *ℤ low) ≤ℤ (pos P.scale *ℤ cost_of P y))
      (λ _. weak-duality (facts k) d y f) (λ _. bound-below-costs k d y f)

  -- T9.3: and so with low, which counts one look more
  pub low-below-costs : (k : ℕ) (d : ℤ) (y : ℕ → ℤ) → Feasible P d y
      → (d *ℤ low_after P k) ≤ℤ (pos P.scale *ℤ cost_of P y)
  low-below-costs k d y f = rw (low-handed-on P k) (bound-below-costs (suc k) d y f)
