use Rattle.std.proofs.Common.{◌<◌, sym, ◌∙◌, rules, arith, SFits, to_z-of_z}
use Rattle.std.specs.Int.{w16}
use Rattle.sheet_figures.specs.Padded.{fill_start, fill-next}
use Rattle.run_amounts.proofs.choose_amounts.Goals as goal

pub loop-j-init : goal.loop-j-init
loop-j-init c = c.requires.empty ∙ sym (fill_start 32 _)

pub loop-j-preserved : goal.loop-j-preserved
loop-j-preserved c =
    let fits : SFits w16 c.amount_at.result = search rules in
    let here : c.loop-j.j < 32 = omega (arith, c.requires.narrow) in
    fill-next 32 _ here c.loop-j.invariant (to_z-of_z fits ∙ c.amount_at.ensures)
