-- Each turn puts one right-hand side.
use Rattle.std.proofs.Common.{ap, arith, rules, w32, w64, SFits}
use Rattle.proof_integer.specs.Range.{widened_is}
use Rattle.rules.specs.Notation.{at as element}
use Rattle.rules_mps.specs.Mps.{rhs_line}
use Rattle.out_text.specs.Grows.{grows-as}
use Rattle.out_lines.specs.ManyLines.{grows-no_line, grows-line, grows-lines}
use Rattle.out_mps_sections.proofs.put_right_hand_sides.Goals as goal

pub loop-i-init : goal.loop-i-init
loop-i-init c = grows-no_line

pub loop-i-preserved : goal.loop-i-preserved
loop-i-preserved c =
    let fits : SFits w32 (element c.args.f.now.rhs c.loop-i.i) = search rules in
    grows-line c.loop-i.invariant (omega arith)
    (grows-as (ap (rhs_line c.loop-i.i) (widened_is w64 tt fits)) c.put_rhs.ensures)

pub returns : goal.returns
returns c = grows-lines c.loop-i.invariant (omega arith)
