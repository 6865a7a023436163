-- The cost, and then the coefficients.
use Rattle.std.proofs.Common.{ap, rules, w16, w64, SFits}
use Rattle.proof_integer.specs.Range.{widened_is}
use Rattle.rules.specs.Notation.{at as element}
use Rattle.rules_mps.specs.Mps.{cost_line, column_lines}
use Rattle.out_text.specs.Grows.{grows-as, grows-then}
use Rattle.out_mps_sections.proofs.put_column.Goals as goal

pub returns : goal.returns
unfolding column_lines
returns c =
    let j = c.args.j in
    let fits : SFits w16 (element c.args.f.now.cost j) = search rules in
    grows-then (grows-as (ap (cost_line j) (widened_is w64 tt fits)) c.put_cost.ensures) c.put_coefficients.ensures
