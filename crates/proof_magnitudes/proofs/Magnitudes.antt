-- Each figure of a step, and every sum and product that leads to it, fits 64 signed bits (T5.6).
use Rattle.std.specs.Prelude.{ℕ, ◌<◌, ◌≤◌, ℤ, pos, ◌+ℤ◌, ◌*ℤ◌}
use Rattle.std.proofs.Common.{le_refl, lit≤}
use Rattle.proof_integer.specs.Range.{Bnd, ◌b+◌, ◌b*◌}
use Rattle.rules.specs.Notation.{sum_to}
use Rattle.rules.specs.Problem.{Problem, cost_of}
use Rattle.rules.specs.Step.{reduced_cost, residual, dual_value}
use Rattle.proof_magnitudes.specs.CostRange.{greatest_end}
use Rattle.proof_magnitudes.proofs.CostRange.{greatest-minimal}
use Rattle.proof_magnitudes.specs.Accepted.{Accepted}
use Rattle.proof_magnitudes.specs.Magnitudes.{fit, CostMagnitudes, StepMagnitudes}
use Rattle.proof_magnitudes.specs.Magnitudes.{over, scale-bnd, numerator-bnd}
use Rattle.proof_magnitudes.specs.Magnitudes.{amounts-bnd, cost-magnitudes, residual-bnd}

module _ {P : Problem} {k : ℕ} (a : Accepted P k) (M x : ℕ → ℤ) (M-in : (i : ℕ) → i < P.limits → Bnd (M i) 1073741824)
    (x-in : (j : ℕ) → j < P.materials → Bnd (x j) 1000) where
  -- a sum by itself, and added to what the figure begins with
  reduced-bnd : (m j : ℕ) → m ≤ P.limits → j < P.materials
      → Bnd (sum_to m (λ i. M i *ℤ P.coefficient i j)) 17179869184000
  reduced-bnd m j h l = over a.limits-few _ (λ i k. M-in i k b* a.coefficient-in i k j l) m h

  reduced-part-bnd : (m j : ℕ) → m ≤ P.limits → j < P.materials
      → Bnd (pos P.scale *ℤ P.cost j +ℤ sum_to m (λ i. M i *ℤ P.coefficient i j)) 17179879424000
  reduced-part-bnd m j h l = scale-bnd a b* a.cost-in j l b+ reduced-bnd m j h l

  dual-bnd : (m : ℕ) → m ≤ P.limits → Bnd (sum_to m (λ i. M i *ℤ residual P x i)) 1099511627776000000
  dual-bnd m h = over a.limits-few _ (λ i k. M-in i k b* residual-bnd a x x-in i k) m h

  step-cost-magnitudes : CostMagnitudes P x 1000
  step-cost-magnitudes = cost-magnitudes a x (lit≤ tt) x-in

  dual-part-bnd : (m : ℕ) → m ≤ P.limits
      → Bnd (pos P.scale *ℤ cost_of P x +ℤ sum_to m (λ i. M i *ℤ residual P x i)) 1099511955456000000
  dual-part-bnd m h = step-cost-magnitudes.scaled.magnitude b+ dual-bnd m h

  pub step-magnitudes : StepMagnitudes P M x
  unfolding reduced_cost dual_value
  step-magnitudes = record {
    scaled-cost = λ j l. fit tt (scale-bnd a b* a.cost-in j l);
    reduced-term = λ i j h l. fit tt (M-in i h b* a.coefficient-in i h j l);
    reduced-sum = λ m j h l. fit tt (reduced-bnd m j h l);
    reduced-part = λ m j h l. fit tt (reduced-part-bnd m j h l);
    reduced-cost = λ j l. fit tt (reduced-part-bnd P.limits j (le_refl _) l);
    amount = λ j l. fit tt (x-in j l);
    load-term = λ i j h l. fit tt (a.coefficient-in i h j l b* x-in j l);
    load-sum = λ i n h l. fit tt (over a.materials-few _ (λ j k. a.coefficient-in i h j k b* x-in j k) n l);
    one-residual = λ i l. fit tt (residual-bnd a x x-in i l);
    step-cost = step-cost-magnitudes;
    dual-term = λ i l. fit tt (M-in i l b* residual-bnd a x x-in i l);
    dual-sum = λ m l. fit tt (dual-bnd m l);
    dual-part = λ m l. fit tt (dual-part-bnd m l);
    dual-value = fit tt (dual-part-bnd P.limits (le_refl _));
    greatest-cost = cost-magnitudes a (greatest_end P) (lit≤ tt) (amounts-bnd a (greatest-minimal P));
    scaled-residual = λ i l. fit tt (numerator-bnd a b* residual-bnd a x x-in i l);
    uncut = λ i l. fit tt (M-in i l b+ numerator-bnd a b* residual-bnd a x x-in i l);
  }
