-- Each turn sets the next place.
use Rattle.std.proofs.Common.{rules, arith, sym, ◌∙◌, ◌*ℤ◌, SFits, to_z-of_z}
use Rattle.std.specs.Int.{w16, w64}
use Rattle.proof_integer.specs.Range.{◌b*◌, bnd-sfits, sfits-bnd, widened_is}
use Rattle.rules.specs.Notation.{at}
use Rattle.sheet_figures.specs.Padded.{fill_start, fill-next}
use Rattle.run_ends.proofs.choose_ends.Goals as goal

pub loop-j-init : goal.loop-j-init
loop-j-init c = c.requires.empty ∙ sym (fill_start 32 _)

pub loop-j-preserved : goal.loop-j-preserved
loop-j-preserved c =
    let j = c.loop-j.j in
    let f = c.args.f.now in
    let cost-fits : SFits w16 (at f.cost j) = search rules in
    let weight-fits : SFits w64 (c.args.sign *ℤ at f.cost j) =
    bnd-sfits tt (c.requires.unit b* sfits-bnd cost-fits) in
    let least-fits : SFits w16 (at f.least j) = search rules in
    let most-fits : SFits w16 (at f.most j) = search rules in
    let result-fits : SFits w16 c.end_by.result = search rules in
    let sign-is = to_z-of_z c.ranges.sign in
    let cost-is = widened_is w64 tt cost-fits in
    fill-next 32 _ (omega (arith, c.requires.narrow)) c.loop-j.invariant
    (rw sign-is
    (to_z-of_z result-fits
    ∙ (simp (to_z-of_z least-fits, to_z-of_z most-fits, c.from.ensures, cost-is, sign-is, to_z-of_z weight-fits)
    at c.end_by.ensures)))
