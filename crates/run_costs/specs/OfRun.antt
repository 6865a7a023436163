-- The costs of an accepted problem's run fit, and so does its gap. The figures f are those that the functions are lent.
use Rattle.std.specs.Prelude.{◌≡◌, List, ℕ, ◌≤◌, ℤ}
use Rattle.std.proofs.Math.Option.{none}
use Rattle.std.proofs.Math.Nat.{le_trans}
use Rattle.std.proofs.Common.{lit≤}
use Rattle.std.proofs.Math.IntN.{+ℤ_idl}
use Rattle.proof_integer.specs.Range.{bnd-sfits}
use Rattle.rules.specs.Notation.{at}
use Rattle.rules.specs.Problem.{Problem, cost_of}
use Rattle.rules.specs.Run.{state_after, low_after, gap_of}
use Rattle.rules.specs.Answers.{run_refusal}
use Rattle.proof_magnitudes.specs.Accepted.{Accepted}
use Rattle.proof_magnitudes.specs.CostRange.{greatest_end, cheapest_end}
use Rattle.proof_magnitudes.proofs.CostRange.{cheapest-minimal, greatest-minimal}
use Rattle.proof_magnitudes.specs.Magnitudes.{CostMagnitudes, amounts-bnd, cost-magnitudes}
use Rattle.proof_magnitudes.proofs.SheetMagnitudes.{plan-magnitudes}
use Rattle.sheet_figures.specs.declared.Figures.{Figures}
use Rattle.sheet_figures.specs.Figures.{problem_of}
use Rattle.run_ends.specs.SignedEnds.{materials_of}
use Rattle.run_costs.specs.Costs.{CostFits, GapFits}

-- the cost of amounts of at most 1,000
pub cost-fits : {P : Problem} {k : ℕ} → Accepted P k → (x : ℕ → ℤ) → CostMagnitudes P x 1000 → CostFits P x
cost-fits accepted x costs = record {
  narrow = accepted.materials-few;
  scale = accepted.scale_small;
  sum = record {
    one = λ j l. bnd-sfits tt (costs.term j l).magnitude;
    part = λ n l. rw +ℤ_idl (bnd-sfits tt (costs.sum n l).magnitude);
  };
  scaled = costs.scaled.fits;
}

module _ (f : Figures) (a : List ℤ) {k : ℕ} (accepted : Accepted (problem_of f a) k) where
  abbrev P : Problem
  P = problem_of f a

  -- as the functions see it, to which the coefficients are not lent
  abbrev costs : Problem
  costs = materials_of f

  -- ---- the greatest and the cheapest cost
  pub greatest-fits : CostFits costs (greatest_end P)
  unfolding cost_of
  greatest-fits =
      let amounts = amounts-bnd accepted (greatest-minimal P) in
      let fits = cost-fits accepted _ (cost-magnitudes accepted _ (lit≤ tt) amounts) in
      record { narrow = fits.narrow; scale = fits.scale; sum = fits.sum; scaled = fits.scaled }

  pub cheapest-fits : CostFits costs (cheapest_end P)
  unfolding cost_of
  cheapest-fits =
      let amounts = amounts-bnd accepted (cheapest-minimal P) in
      let fits = cost-fits accepted _ (cost-magnitudes accepted _ (lit≤ tt) amounts) in
      record { narrow = fits.narrow; scale = fits.scale; sum = fits.sum; scaled = fits.scaled }

  -- ---- the gap after t steps, where the run is not refused
  pub gap-fits : (t : ℕ) → t ≤ k → run_refusal P t ≡ none
      → GapFits costs t (low_after P t) (at (state_after P t).sums)
  unfolding cost_of gap_of
  gap-fits t few going =
      let large = plan-magnitudes accepted t few going in
      record {
        narrow = accepted.materials-few;
        scale = accepted.scale_small;
        few = le_trans few accepted.steps-few;
        sum = record {
          one = λ j l. (large.state.sums-cost.term j l).fits;
          part = λ n l. rw +ℤ_idl (large.state.sums-cost.sum n l).fits;
        };
        scaled = large.state.sums-cost.scaled.fits;
        counted = large.counted-low.fits;
        whole = large.gap.fits;
      }
