-- A buffer that is too short is refused before any step.
use Rattle.std.proofs.Common.{refl, sym, ap, ◌∙◌, ℕ, length, lt-ltb, le-ltb}
use Rattle.std.specs.Prelude.{ltb}
use Rattle.std.proofs.Math.Option.{some}
use Rattle.rules.specs.Refusals.{numbered, number_of, refuse}
use Rattle.rules.specs.Answers.{plan_refusal}
use Rattle.proof_laws.specs.FirstPlace.{refuse-yes, refuse-no, given, handed-on}
use Rattle.planner.proofs.Ending.{ends-refused, ends_same}
use Rattle.planner.proofs.plan_figures.Goals as goal

pub returns-then-record-wanted : goal.returns-then-record-wanted
unfolding numbered number_of plan_refusal
returns-then-record-wanted c =
    ends-refused _ (given _ (
    ap (λ (n : ℕ). refuse 8 n (ltb (length c.args.«record».now) n)) (sym c.record_length-wanted.ensures)
    ∙ refuse-yes 8 _ (lt-ltb _ _ c.if-record-wanted.true)
    ∙ ap (λ r. some (numbered r)) (sym c.at.ensures)))

pub returns : goal.returns
unfolding plan_refusal
returns c =
    let room = rw c.record_length-wanted.ensures at c.if-record-wanted.false in
    ends_same refl (sym (handed-on _ (refuse-no 8 _ (le-ltb _ _ room)))) c.plan_run.ensures
