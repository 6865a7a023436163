-- How large the figures of a run become, as long as no step is refused (T5.6), and those of its plan, where the closing
-- look is not refused either. Low lies from D times the cheapest to D times the greatest cost that the bounds leave
-- (T4.6).
use Rattle.std.specs.Prelude.{◌≡◌, not, T, ℤ, pos, ◌≤ℤ◌}
use Rattle.std.proofs.Math.Option.{none}
use Prim.Native.Nat.{ℕ, zero, suc, ◌<◌, ◌≤◌}
use Rattle.std.proofs.Common.{le_trans, lit≤}
use Rattle.std.specs.Int.Signed.{lt_z_no, le_z_yes}
use Rattle.proof_integer.specs.Order.{≤ℤ-trans, max-left, max_least}
use Rattle.proof_integer.specs.Range.{Bnd, ◌b+◌, ◌b-◌, ◌b*◌, bnd-of, bnd-between, between-bnd}
use Rattle.proof_integer.specs.Sum.{sum_to-bnd}
use Rattle.rules.specs.Notation.{at}
use Rattle.rules.specs.Problem.{Problem}
use Rattle.rules.specs.Step.{look_at, greatest_cost, cheapest_cost, infeasible, diverged}
use Rattle.rules.specs.Run.{starting_state, state_after, look_after, closing_value, low_after, gap_of}
use Rattle.rules.specs.Refusals.{first_below}
use Rattle.rules.specs.Answers.{look_refusal, refusal_at, step_refusal}
use Rattle.proof_magnitudes.specs.Minimal.{minimal-within}
use Rattle.proof_magnitudes.specs.CostRange.{cheapest_end, greatest_end}
use Rattle.proof_magnitudes.proofs.CostRange.{cheapest-minimal, greatest-minimal}
use Rattle.proof_magnitudes.specs.CostRange.{InCostRange}
use Rattle.proof_magnitudes.proofs.CostRange.{cost-in-range}
use Rattle.proof_laws.specs.Below.{any_none}
use Rattle.proof_laws.specs.NotRefused.{otherwise-none, refuse-none}
use Rattle.proof_magnitudes.specs.Steps.{entering, amounts, entering-first, residuals-are}
use Rattle.proof_magnitudes.proofs.Steps.{amounts-minimal}
use Rattle.proof_magnitudes.specs.Steps.{entering-sign, sums-are, totals-are, low-handed-on}
use Rattle.proof_magnitudes.specs.Accepted.{Accepted}
use Rattle.proof_magnitudes.specs.Magnitudes.{fit, CostMagnitudes, StepMagnitudes}
use Rattle.proof_magnitudes.specs.Magnitudes.{amounts-bnd, cost-magnitudes, residual-bnd}
use Rattle.proof_magnitudes.proofs.Magnitudes.{step-magnitudes}
use Rattle.proof_magnitudes.specs.RunMagnitudes.{StateMagnitudes, RunMagnitudes, PlanMagnitudes}

-- a look that is not refused does not meet the test of T4.6
look-feasible : (P : Problem) (t : ℕ) → look_refusal P t ≡ none → T (not (infeasible P (look_after P t)))
unfolding look_refusal
look-feasible P t h = refuse-none _ _ _ h

-- where steps 0 to t are not refused, neither are steps 0 to t−1, and step t meets neither the test of T4.6 nor that of
-- T4.8
not-refused : (P : Problem) (t : ℕ) → step_refusal P (suc t) ≡ none
    → (step_refusal P t ≡ none) × T (not (infeasible P (look_after P t)))
    × T (not (diverged P (state_after P (suc t)).multipliers))
unfolding step_refusal refusal_at first_below
not-refused P t h =
    let (before, here) = otherwise-none _ _ h in
    let (nine, ten) = otherwise-none _ _ here in
    (before, look-feasible P t nine, refuse-none _ _ _ ten)

-- a look that does not meet the test of T4.6 keeps low in the range of the costs
low-next : (P : Problem) (t : ℕ) → InCostRange P (state_after P t).lower_bound → T (not (infeasible P (look_after P t)))
    → InCostRange P (low_after P t)
unfolding low_after closing_value infeasible
low-next P t r feasible = record {
  above = ≤ℤ-trans r.above (max-left _ _);
  below = max_least r.below (lt_z_no feasible);
}

module _ {P : Problem} {k : ℕ} (a : Accepted P k) where
  -- ---- T4.8 keeps the multipliers at most 2³⁰
  multiplier-top : (t : ℕ) → step_refusal P t ≡ none → (i : ℕ) → i < P.limits → entering P t i ≤ℤ pos 1073741824
  unfolding diverged
  multiplier-top zero h i l = rw (entering-first P i l) (a.start-top i l)
  multiplier-top (suc t) h i l = lt_z_no (any_none P.limits _ (not-refused P t h).2 i l)

  multiplier-bnd : (t : ℕ) → step_refusal P t ≡ none → (i : ℕ) → i < P.limits → Bnd (entering P t i) 1073741824
  multiplier-bnd t h i l =
      bnd-between (≤ℤ-trans (le_z_yes tt) (entering-sign P a.start-sign t i l)) (multiplier-top t h i l)

  -- ---- low is D times the cheapest cost before any step, and T4.6 keeps it in the range of the costs
  low-range : (t : ℕ) → step_refusal P t ≡ none → InCostRange P (state_after P t).lower_bound
  unfolding state_after starting_state cheapest_cost
  low-range zero h = cost-in-range P (cheapest_end P) (minimal-within a.ordered (cheapest-minimal P))
  low-range (suc t) h =
      let (before, feasible, _) = not-refused P t h in
      rw (low-handed-on P t) at (low-next P t (low-range t before) feasible)

  range-bnd : {z : ℤ} → InCostRange P z → Bnd z 327680000000
  unfolding cheapest_cost greatest_cost
  range-bnd r =
      let cheapest = cost-magnitudes a (cheapest_end P) (lit≤ tt) (amounts-bnd a (cheapest-minimal P)) in
      let greatest = cost-magnitudes a (greatest_end P) (lit≤ tt) (amounts-bnd a (greatest-minimal P)) in
      bnd-between
      (≤ℤ-trans (between-bnd cheapest.scaled.magnitude).0 r.above)
      (≤ℤ-trans r.below (between-bnd greatest.scaled.magnitude).1)

  -- ---- the totals of at most k steps
  module _ (t : ℕ) (few : t ≤ k) where
    sums-bnd : (j : ℕ) → j < P.materials → Bnd (at (state_after P t).sums j) 4096000
    sums-bnd j l =
        rw (sums-are P t j l)
        (sum_to-bnd {N = 4096} t _ (le_trans few a.steps-few) (λ s _. amounts-bnd a (amounts-minimal P s) j l))

    totals-bnd : (i : ℕ) → i < P.limits → Bnd (at (state_after P t).residual_totals i) 262144000000
    totals-bnd i l =
        rw (totals-are P t i l)
        (sum_to-bnd {N = 4096} t _ (le_trans few a.steps-few) (λ s _.
        residual-bnd a (amounts P s) (amounts-bnd a (amounts-minimal P s)) i l))

    sums-cost-magnitudes : CostMagnitudes P (at (state_after P t).sums) 4096000
    sums-cost-magnitudes = cost-magnitudes a (at (state_after P t).sums) (lit≤ tt) sums-bnd

    state-magnitudes : step_refusal P t ≡ none → StateMagnitudes P t
    state-magnitudes h = record {
      multiplier = λ i l. fit tt (multiplier-bnd t h i l);
      sum = λ j l. fit tt (sums-bnd j l);
      residual-total = λ i l. fit tt (totals-bnd i l);
      low-range = low-range t h;
      low = fit tt (range-bnd (low-range t h));
      sums-cost = sums-cost-magnitudes;
    }

    -- the step that the state enters, and the closing look of its run
    steps-magnitudes : step_refusal P t ≡ none → StepMagnitudes P (entering P t) (amounts P t)
    steps-magnitudes h =
        step-magnitudes a (entering P t) (amounts P t) (multiplier-bnd t h) (amounts-bnd a (amounts-minimal P t))

    pub closed-magnitudes : step_refusal P t ≡ none → look_refusal P t ≡ none → PlanMagnitudes P t
    unfolding gap_of closing_value look_after look_at
    closed-magnitudes h closing =
        let range = low-next P t (low-range t h) (look-feasible P t closing) in
        let counted = bnd-of (pos t) (le_trans few a.steps-few) b* range-bnd range in
        record {
          state = state-magnitudes h;
          closing-value = (steps-magnitudes h).dual-value;
          low-range = range;
          low = fit tt (range-bnd range);
          counted-low = fit tt counted;
          gap = fit tt (sums-cost-magnitudes.scaled.magnitude b- counted);
        }

-- So it is after every number t of steps of an accepted problem, none of them refused.
pub run-magnitudes : {P : Problem} {k : ℕ} → Accepted P k → (t : ℕ) → t ≤ k → step_refusal P t ≡ none
    → RunMagnitudes P t
run-magnitudes {P} a t few h = record {
  state = state;
  step = step;
  new-sum = λ j l. fit tt ((state.sum j l).magnitude b+ (step.amount j l).magnitude);
  new-total = λ i l.
      rw (residuals-are P t i l) (fit tt ((state.residual-total i l).magnitude b+ (step.one-residual i l).magnitude));
}
  where
    state : StateMagnitudes P t
    state = state-magnitudes a t few h

    step : StepMagnitudes P (entering P t) (amounts P t)
    step = steps-magnitudes a t few h
