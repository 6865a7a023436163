-- What the functions of a step ask follows from the magnitudes of the run.
use Rattle.std.specs.Prelude.{◌≡◌, refl, List, [], ℕ, ◌≤◌, ℤ, pos, ◌+ℤ◌, ◌*ℤ◌, replicate}
use Rattle.std.proofs.Common.{sym, ap, subst, lt_of_lt_of_le, SFits}
use Rattle.std.proofs.Math.IntN.{+ℤ_idl}
use Rattle.std.specs.Int.{w32, w64}
use Rattle.proof_integer.specs.Range.{bnd-sfits}
use Rattle.proof_integer.specs.Sum.{sum_to-cong}
use Rattle.rules.specs.Notation.{sum_to, at}
use Rattle.rules.specs.Problem.{Problem, cost_of, load_of}
use Rattle.rules.specs.Step.{reduced_cost, amount, residual, dual_value, look_at}
use Rattle.rules.specs.Run.{state_after, look_after}
use Rattle.proof_magnitudes.specs.Accepted.{Accepted}
use Rattle.proof_magnitudes.specs.Steps.{entering, amounts, residuals, residuals-are}
use Rattle.proof_magnitudes.specs.RunMagnitudes.{RunMagnitudes}
use Rattle.sheet_figures.specs.declared.Figures.{Figures}
use Rattle.sheet_figures.specs.Figures.{started_in, problem_of}
use Rattle.run_sums.specs.SumsFit.{SumFits}
use Rattle.run_costs.specs.OfRun.{cost-fits}
use Rattle.run_amounts.specs.Amounts.{AmountsFit}
use Rattle.run_look.specs.LookFits.{ResidualsFit, LookFits}
use Rattle.run_moves.specs.Moves.{limits_of, MoveFits}
use Rattle.run_totals.specs.Totals.{TotalsFit}

-- for a look that is lent no step numerator and no starts: it is the same look
pub same-look : (f : Figures) (a : List ℤ) (M : ℕ → ℤ)
    → look_at (started_in f.materials f.limits 0 f.scale f.cost f.least f.most a f.rhs []) M
    ≡ look_at (problem_of f a) M
unfolding look_at amount reduced_cost residual load_of dual_value cost_of
same-look f a M = refl

module _ (f : Figures) (a : List ℤ) {k : ℕ} (accepted : Accepted (problem_of f a) k) (t : ℕ)
    (large : RunMagnitudes (problem_of f a) t) where
  abbrev P : Problem
  P = problem_of f a

  amounts-fit : AmountsFit P (entering P t) (replicate 32 (pos 0))
  amounts-fit = record {
    empty = refl;
    narrow = accepted.materials-few;
    each = λ j l. record {
      inside = lt_of_lt_of_le l accepted.materials-few;
      few = accepted.limits-few;
      scale = accepted.scale_small;
      scaled-cost = (large.step.scaled-cost j l).fits;
      reduced = record {
        one = λ i h. (large.step.reduced-term i j h l).fits;
        part = λ i h. (large.step.reduced-part i j h l).fits;
      };
    };
  }

  residuals-fit : ResidualsFit P (amounts P t) (replicate 16 (pos 0))
  unfolding residual load_of
  residuals-fit = record {
    empty = refl;
    narrow = accepted.materials-few;
    few = accepted.limits-few;
    load = λ i l. record {
      one = λ j h. bnd-sfits tt (large.step.load-term i j l h).magnitude;
      part = λ n h. rw +ℤ_idl (bnd-sfits tt (large.step.load-sum i n l h).magnitude);
    };
    whole = λ i l. bnd-sfits tt (large.step.one-residual i l).magnitude;
  }

  -- D times the cost of the amounts
  abbrev costed : ℤ
  costed = pos P.scale *ℤ cost_of P (amounts P t)

  -- the terms of the dual value, with the residuals as the look has them
  value-fits : SumFits w64 costed (λ i. entering P t i *ℤ residuals P t i) P.limits
  value-fits = record {
    one = λ i l. rw (residuals-are P t i l) (large.step.dual-term i l).fits;
    part = λ m l. subst (λ z. SFits w64 (costed +ℤ z)) (by-residuals m l) (large.step.dual-part m l).fits;
  }
    where
      by-residuals : (m : ℕ) → m ≤ P.limits
          → sum_to m (λ i. entering P t i *ℤ residual P (amounts P t) i)
          ≡ sum_to m (λ i. entering P t i *ℤ residuals P t i)
      by-residuals m l =
          sum_to-cong m _ _ (λ i h. ap (λ g. entering P t i *ℤ g) (sym (residuals-are P t i (lt_of_lt_of_le h l))))

  pub look-fits : LookFits P (entering P t) (replicate 32 (pos 0)) (replicate 16 (pos 0))
  unfolding look_after
  look-fits = record {
    amounts-fit = amounts-fit;
    residuals-fit = residuals-fit;
    cost = cost-fits accepted (amounts P t) large.step.step-cost;
    value = value-fits;
  }

  pub move-fits : MoveFits (limits_of f) (entering P t) (residuals P t)
  move-fits = record {
    few = accepted.limits-few;
    numerator = accepted.numerator-small;
    scaled = λ i l. rw (residuals-are P t i l) (large.step.scaled-residual i l).fits;
    uncut = λ i l. rw (residuals-are P t i l) (large.step.uncut i l).fits;
  }

  pub sums-fit : TotalsFit w32 32 32 f.materials (at (state_after P t).sums) (amounts P t)
  sums-fit = record {
    few = accepted.materials-few;
    enough = accepted.materials-few;
    one = λ j l. bnd-sfits tt (large.new-sum j l).magnitude;
  }

  pub totals-fit : TotalsFit w64 16 16 f.limits (at (state_after P t).residual_totals) (residuals P t)
  totals-fit = record {
    few = accepted.limits-few;
    enough = accepted.limits-few;
    one = λ i l. (large.new-total i l).fits;
  }
