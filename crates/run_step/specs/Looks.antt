-- The look that the code makes at the multipliers of a state after t steps: it fits, and it is the look of the run. A
-- step begins with it (T4), and a run of t steps closes with it (T5.8).
use Rattle.std.specs.Prelude.{◌≡◌, List, ℕ, ℤ, pos, replicate}
use Rattle.std.proofs.Common.{sym, subst}
use Rattle.std.specs.Int.Signed.{lt_z}
use Rattle.rules.specs.Notation.{maxℤ, at}
use Rattle.rules.specs.Problem.{Problem}
use Rattle.rules.specs.Step.{look_at, infeasible}
use Rattle.rules.specs.Run.{look_after, closing_value, low_after}
use Rattle.proof_laws.specs.Lengths.{amounts-length, residuals-length}
use Rattle.proof_magnitudes.specs.Steps.{entering, amounts, residuals}
use Rattle.proof_magnitudes.specs.RunMagnitudes.{RunMagnitudes}
use Rattle.proof_magnitudes.proofs.RunMagnitudes.{run-magnitudes}
use Rattle.sheet_figures.specs.declared.Figures.{Figures}
use Rattle.sheet_figures.specs.Figures.{problem_of}
use Rattle.run_look.specs.Given.{LookIn}
use Rattle.run_look.specs.LookFits.{LookFits}
use Rattle.run_step.specs.declared.State.{State}
use Rattle.run_step.specs.States.{state_in}
use Rattle.run_step.specs.Reached.{LookReady}
use Rattle.run_step.specs.Reads.{array-reads, multipliers-read}
use Rattle.run_step.specs.Fitting.{look-fits}

module _ {f : Figures} {a : List ℤ} {greatest : ℤ} {t : ℕ} {w : State} (ready : LookReady f a greatest t w) where
  abbrev P : Problem
  P = problem_of f a

  pub large : RunMagnitudes P t
  large = run-magnitudes ready.reached.accepted t ready.reached.few ready.reached.going

  pub multipliers-enter : at w.multipliers ≡ entering P t
  unfolding state_in
  multipliers-enter = multipliers-read ready.reached.accepted t (λ k. (ready.reached.state k).multipliers)

  -- what the look asks, with its two arrays of zeros
  pub look-ready : LookFits P (at w.multipliers) (replicate 32 (pos 0)) (replicate 16 (pos 0))
  look-ready =
      subst
      (λ (M : ℕ → ℤ). LookFits P M (replicate 32 (pos 0)) (replicate 16 (pos 0)))
      (sym multipliers-enter)
      (look-fits f a ready.reached.accepted t large)

  module _ {x g : List ℤ} {value : ℤ} where
    -- it is the look of the run
    pub look-of-run : LookIn (look_at P (at w.multipliers)) x g value → LookIn (look_after P t) x g value
    unfolding look_after
    look-of-run look = subst (λ (M : ℕ → ℤ). LookIn (look_at P M) x g value) multipliers-enter look

    -- ---- what it gives: the amounts x, the residuals g and the dual value
    module _ (look : LookIn (look_after P t) x g value) where
      pub amounts-read : at x ≡ amounts P t
      amounts-read = array-reads 32 _ look.amounts-are (amounts-length P t) ready.reached.accepted.materials-few

      pub residuals-read : at g ≡ residuals P t
      residuals-read = array-reads 16 _ look.residuals-are (residuals-length P t) ready.reached.accepted.limits-few

      -- the test of the code is that of T4.6
      pub test-of-run : lt_z greatest value ≡ infeasible P (look_after P t)
      unfolding infeasible
      test-of-run = λ k. lt_z (ready.greatest-is k) (look.value-is k)

      -- the larger of the state's low and the dual value is low after t steps (T5.3)
      pub low-of-run : maxℤ w.low value ≡ low_after P t
      unfolding state_in low_after closing_value
      low-of-run = λ k. maxℤ (ready.reached.state k).low (look.value-is k)
