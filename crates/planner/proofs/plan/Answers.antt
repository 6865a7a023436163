-- A sheet that is not read (T7.5) is refused as T7.4 says; the figures of any other give the sheet's own plan.
use Rattle.std.proofs.Common.{List, ℤ, pos, length}
use Rattle.std.proofs.Math.ListN.{replicate, length-replicate}
use Rattle.std.proofs.lemmas.Result.{err_from_is_err_and}
use Rattle.sheet_read.specs.Reading.{figures_read, refused_reading}
use Rattle.planner.proofs.Ending.{ends-refused, ends_same, promised}
use Rattle.planner.proofs.Sheets.{figures-ready, plan-is, refusal_is, layout-refused}
use Rattle.planner.proofs.plan.Goals as goal

-- the array that is lent to the reader
abbrev zeros : List ℤ
zeros = replicate 512 (pos 0)

-- the sheet is refused
pub returns-in_err-figures : goal.returns-in_err-figures
returns-in_err-figures c =
    let refused = err_from_is_err_and c.from_residual.result c.from_residual.ensures.1 in
    let met = refused_reading _ _ _ c.in_err-figures.ensures.answered in
    rw (refused.1, refused.2)
    (promised (ends-refused _ (layout-refused c.args.sheet.now (length c.args.«record».now) met)))

-- the sheet is read
pub plan_figures-requires : goal.plan_figures-requires
plan_figures-requires c =
    let reads = c.in_ok-figures.ensures in
    figures-ready c.args.sheet.now (figures_read _ _ _ reads.answered) zeros (length-replicate 512 (pos 0)) reads

pub returns : goal.returns
returns c =
    let sheet = c.args.sheet.now in
    let reads = c.in_ok-figures.ensures in
    let read = figures_read _ _ _ reads.answered in
    let long = length-replicate 512 (pos 0) in
    promised
    (ends_same (plan-is sheet read zeros long reads) (refusal_is sheet read zeros long reads _) c.plan_figures.ensures)
