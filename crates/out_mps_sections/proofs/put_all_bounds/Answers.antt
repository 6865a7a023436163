-- Each turn puts the bounds of one material.
use Rattle.std.proofs.Common.{arith, rules, w16, w64, SFits}
use Rattle.proof_integer.specs.Range.{widened_is}
use Rattle.rules.specs.Notation.{at as element}
use Rattle.rules_mps.specs.Mps.{bound_lines}
use Rattle.out_text.specs.Grows.{grows-as}
use Rattle.out_lines.specs.ManyLines.{grows-no_line, grows-line, grows-lines}
use Rattle.out_mps_sections.proofs.put_all_bounds.Goals as goal

pub loop-j-init : goal.loop-j-init
loop-j-init c = grows-no_line

pub loop-j-preserved : goal.loop-j-preserved
loop-j-preserved c =
    let j = c.loop-j.j in
    let least_fits : SFits w16 (element c.args.f.now.least j) = search rules in
    let most_fits : SFits w16 (element c.args.f.now.most j) = search rules in
    let least_is = widened_is w64 tt least_fits in
    let most_is = widened_is w64 tt most_fits in
    grows-line c.loop-j.invariant (omega arith)
    (grows-as (λ k. bound_lines j (least_is k) (most_is k)) c.put_bounds.ensures)

pub returns : goal.returns
returns c = grows-lines c.loop-j.invariant (omega arith)
