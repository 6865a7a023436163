-- How large the figures of the plan of an accepted problem become, and those of the run and the plan of every sheet
-- that is read (T5.6).
use Rattle.std.specs.Prelude.{◌≡◌, List}
use Rattle.std.proofs.Math.Option.{none}
use Prim.Native.Nat.{ℕ, ◌≤◌}
use Rattle.rules.specs.Problem.{Problem}
use Rattle.rules.specs.Sheet.{sheet_of, problem}
use Rattle.rules.specs.Refusals.{layout_refusal}
use Rattle.rules.specs.Answers.{step_refusal, run_refusal}
use Rattle.proof_laws.specs.NotRefused.{otherwise-none}
use Rattle.proof_magnitudes.specs.Accepted.{Accepted}
use Rattle.proof_magnitudes.proofs.Accepted.{accepted}
use Rattle.proof_magnitudes.specs.RunMagnitudes.{RunMagnitudes, PlanMagnitudes}
use Rattle.proof_magnitudes.proofs.RunMagnitudes.{closed-magnitudes, run-magnitudes}

-- The plan after t steps of an accepted problem, where its run is not refused ..
pub plan-magnitudes : {P : Problem} {k : ℕ} → Accepted P k → (t : ℕ) → t ≤ k → run_refusal P t ≡ none
    → PlanMagnitudes P t
unfolding run_refusal
plan-magnitudes a t few h =
    let (steps, closing) = otherwise-none _ _ h in
    closed-magnitudes a t few steps closing

-- .. and so with the run and the plan of every sheet that is read.
pub magnitudes : (sheet : List ℕ) → layout_refusal sheet ≡ none
    → (t : ℕ) → t ≤ (sheet_of sheet).sizes.steps → step_refusal (problem (sheet_of sheet)) t ≡ none
    → RunMagnitudes (problem (sheet_of sheet)) t
magnitudes sheet read = run-magnitudes (accepted sheet read)

pub magnitudes-of-plan : (sheet : List ℕ) → layout_refusal sheet ≡ none
    → (t : ℕ) → t ≤ (sheet_of sheet).sizes.steps → run_refusal (problem (sheet_of sheet)) t ≡ none
    → PlanMagnitudes (problem (sheet_of sheet)) t
magnitudes-of-plan sheet read = plan-magnitudes (accepted sheet read)
