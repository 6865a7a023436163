-- The numbers are those of what the planner's answer stands for, and that is the answer to the sheet (T7.1).
use Rattle.std.proofs.Common.{rules, ap, subst, ◌∙◌}
use mir.Syntax.{w64}
use mir.Val.{SFits}
use mir.Facts.{to_z-of_z}
use Rattle.rules.specs.Margins.{Margins}
use Rattle.batchplan_lib.specs.Called.{numbers_of}
use Rattle.batchplan_lib.proofs.batchplan_plan.Goals as goal

pub returns : goal.returns
returns c =
    let promise = c.plan.ensures in
    let numbers = c.from-numbers in
    let low : SFits w64 numbers.result.low = search rules in
    let gap : SFits w64 numbers.result.gap = search rules in
    record {
      numbers = rw (to_z-of_z low, to_z-of_z gap) (numbers.ensures ∙ ap numbers_of promise.answered);
      buffer = promise.buffer;
      margins = subst (Margins c.args.sheet.now) promise.answered promise.margins;
    }
