-- T9.7: refusal 9 is given only where there is no feasible point. It comes from the test of T4.6 alone, at a step or at
-- the closing look: every other test gives another number.
use Rattle.std.specs.Prelude.{List, ℕ, T}
use Rattle.std.proofs.Common.{arith}
use Rattle.std.specs.Int.Signed.{lt_z_yes}
use Rattle.rules.specs.Problem.{Problem, NoneFeasible}
use Rattle.rules.specs.Sheet.{sheet_of, problem}
use Rattle.rules.specs.Step.{look_at, infeasible}
use Rattle.rules.specs.Run.{look_after}
use Rattle.rules.specs.Refusals.{layout_refusal}
use Rattle.rules.specs.Answers.{look_refusal, refusal_at, step_refusal, run_refusal, plan_refusal, refusal}
use Rattle.proof_laws.specs.Given.{otherwise-given, first-given, refuse-given, layout-given}
use Rattle.proof_magnitudes.proofs.Accepted.{accepted}
use Rattle.proof_margins.proofs.WeakDuality.{none-feasible}
use Rattle.proof_magnitudes.specs.Steps.{StartSign}
use Rattle.proof_margins.proofs.RunSteps.{facts}
use Rattle.proof_margins.specs.Infeasible.{RefusalMargins}

-- ---- the looks, by T4.6, and the run
module _ (P : Problem) (start-sign : StartSign P) where
  infeasible-look : (t : ℕ) → T (infeasible P (look_after P t)) → NoneFeasible P
  unfolding infeasible look_after look_at
  infeasible-look t above = none-feasible (facts P start-sign t) (lt_z_yes above)

  look-margins : (t : ℕ) → RefusalMargins P (look_refusal P t)
  unfolding look_refusal
  look-margins t = refuse-given _ _ 9 t _ (λ above _. infeasible-look t above)

  run-margins : (k : ℕ) → RefusalMargins P (run_refusal P k)
  unfolding run_refusal step_refusal refusal_at
  run-margins k =
      otherwise-given _ _ _ _
      (first-given _ _ k _ (λ t.
      otherwise-given _ _ _ _ (look-margins t) (λ _. refuse-given _ _ 10 t _ (λ _ e. absurd (omega arith)))))
      (λ _. look-margins k)

-- ---- the sheet: refusals 1 to 7, and then 8 and the run
module _ (s : List ℕ) where
  pub refusal-margins : (room : ℕ)
      → RefusalMargins (problem (sheet_of s)) (refusal (sheet_of s) (layout_refusal s) room)
  unfolding refusal plan_refusal
  refusal-margins room =
      otherwise-given _ _ _ _ (layout-given _ _ (omega arith) s)
      (λ h.
      otherwise-given _ _ _ _ (refuse-given _ _ 8 _ _ (λ _ e. absurd (omega arith)))
      (λ _. run-margins _ (accepted s h).start-sign (sheet_of s).sizes.steps))
