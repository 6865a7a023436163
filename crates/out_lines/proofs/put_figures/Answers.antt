-- Each turn puts one number after those before it.
use Rattle.std.proofs.Common.{sym, rules, pos, get_or, to_z-of_z, SFits}
use Rattle.std.specs.Int.{w64}
use Rattle.rules.specs.Listing.{spaced}
use Rattle.out_text.specs.Grows.{grows_none, grows-then, grows-as}
use Rattle.out_lines.specs.Lines.{spaced-next}
use Rattle.out_lines.proofs.put_figures.Goals as goal

pub loop-figure-init : goal.loop-figure-init
unfolding spaced
loop-figure-init c = grows_none

pub loop-figure-preserved : goal.loop-figure-preserved
loop-figure-preserved c =
    let figures = c.args.figures.now in
    let i = c.loop-figure.figure-index in
    let fits : SFits w64 (get_or figures i (pos 0)) = search rules in
    grows-as (sym (spaced-next figures i (pos 0) c.loop-figure-test.true))
    (grows-then c.loop-figure.invariant (simp (to_z-of_z fits) at c.put_figure.ensures))
