-- The figures of a plan fit the bytes that a record has for them (T6.1).
use Rattle.std.specs.Prelude.{◌≡◌, ℕ}
use Rattle.std.proofs.Math.Option.{none}
use Rattle.std.proofs.Common.{le_refl, arith}
use Rattle.proof_integer.specs.Range.{bnd-sfits}
use Rattle.rules.specs.Problem.{Problem}
use Rattle.rules.specs.Run.{plan_after}
use Rattle.rules.specs.Answers.{run_refusal}
use Rattle.proof_laws.specs.Lengths.{multipliers-length, sums-length, totals-length}
use Rattle.proof_magnitudes.specs.Accepted.{Accepted}
use Rattle.proof_magnitudes.proofs.SheetMagnitudes.{plan-magnitudes}
use Rattle.proof_magnitudes.specs.PlanFits.{PlanFits}

-- the plan of an accepted problem whose run is not refused fits its record
pub plan-fits : {P : Problem} {k : ℕ} → Accepted P k → run_refusal P k ≡ none → PlanFits (plan_after P k)
unfolding plan_after
plan-fits {P} {k} a going =
    let large = plan-magnitudes a k (le_refl k) going in
    record {
      materials = omega arith;
      limits = omega arith;
      steps = omega arith;
      low = large.low.fits;
      gap = large.gap.fits;
      sums-length = sums-length P k;
      multipliers-length = multipliers-length P k;
      totals-length = totals-length P k;
      sum = λ j l. bnd-sfits tt (large.state.sum j l).magnitude;
      multiplier = λ i l. bnd-sfits tt (large.state.multiplier i l).magnitude;
      total = λ i l. (large.state.residual-total i l).fits;
    }
