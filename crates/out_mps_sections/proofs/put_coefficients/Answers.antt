-- Each turn puts one coefficient.
use Rattle.std.proofs.Common.{◌+◌, ◌*◌, ap, arith, rules, w16, w64, SFits}
use Rattle.proof_integer.specs.Range.{widened_is}
use Rattle.rules.specs.Notation.{at as element}
use Rattle.rules_mps.specs.Mps.{coefficient_line}
use Rattle.out_text.specs.Grows.{grows-as}
use Rattle.out_lines.specs.ManyLines.{grows-no_line, grows-line, grows-lines}
use Rattle.out_mps_sections.proofs.put_coefficients.Goals as goal

pub loop-i-init : goal.loop-i-init
loop-i-init c = grows-no_line

pub loop-i-preserved : goal.loop-i-preserved
loop-i-preserved c =
    let fits : SFits w16 (element c.args.coefficient.now (32 * c.loop-i.i + c.args.j)) = search rules in
    grows-line c.loop-i.invariant (omega arith)
    (grows-as (ap (coefficient_line c.args.j c.loop-i.i) (widened_is w64 tt fits)) c.put_coefficient.ensures)

pub returns : goal.returns
returns c = grows-lines c.loop-i.invariant (omega arith)
