-- A stop of the run is refused, and a run to its end is written.
use Rattle.std.proofs.Common.{◌≡◌, sym, ap, ◌∙◌, List, ℤ}
use Rattle.std.proofs.Math.Option.{none}
use Rattle.std.proofs.lemmas.Result.{err_from_is_err_and}
use Rattle.std.proofs.Math.Nat.{le_refl}
use Rattle.rules.specs.Refusals.{refusal_of}
use Rattle.rules.specs.Answers.{run_refusal}
use Rattle.sheet_figures.specs.declared.Figures.{Figures}
use Rattle.sheet_figures.specs.Figures.{problem_of}
use Rattle.run_step.specs.declared.Stepped.{Stepped}
use Rattle.run_step.specs.States.{HandedBack, closed_in, handed_state}
use Rattle.run_step.specs.Reached.{FiguresReady, Finished}
use Rattle.planner.proofs.Ending.{ends-refused, ends_same, plan-in-arrays, write-ready}
use Rattle.planner.proofs.plan_run.Goals as goal

pub returns-in_err-ran : goal.returns-in_err-ran
unfolding refusal_of
returns-in_err-ran c =
    let refused = err_from_is_err_and c.from_residual.result c.from_residual.ensures.1 in
    rw (refused.1, refused.2) (ends-refused _ (sym c.run-ran.ensures.stop ∙ ap refusal_of c.in_err-ran.was))

finished : (f : Figures) (a : List ℤ) {ran : Stepped} → FiguresReady f a
    → HandedBack (problem_of f a) (closed_in (problem_of f a) f.steps) (run_refusal (problem_of f a) f.steps) ran
    → run_refusal (problem_of f a) f.steps ≡ none → Finished f a f.steps ran.state
unfolding handed_state
finished f a ready back going =
    let P = problem_of f a in
    record {
      accepted = ready.accepted;
      few = le_refl _;
      going = going;
      state = back.state ∙ (λ i. handed_state P (closed_in P f.steps) (going i));
    }

pub write_plan-requires : goal.write_plan-requires
unfolding refusal_of
write_plan-requires c =
    let going = sym c.run-ran.ensures.stop ∙ ap refusal_of c.in_ok-ran.was in
    write-ready _ _
    (finished c.args.f.now c.args.coefficient.now c.requires.figures c.run-ran.ensures going) c.requires.room

pub returns : goal.returns
unfolding refusal_of
returns c =
    let going = sym c.run-ran.ensures.stop ∙ ap refusal_of c.in_ok-ran.was in
    ends_same
    (plan-in-arrays _ _
    (finished c.args.f.now c.args.coefficient.now c.requires.figures c.run-ran.ensures going))
    (sym going)
    c.write_plan.ensures
