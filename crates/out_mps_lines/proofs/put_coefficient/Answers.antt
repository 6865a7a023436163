-- Nothing for 0; else both names and the coefficient.
use Rattle.std.proofs.Math.Facts.{to_z-of_z}
use Rattle.rules.specs.Listing.{text}
use Rattle.rules_mps.specs.Mps.{material_name, limit_name, fields, coefficient_line}
use Rattle.out_text.specs.Grows.{grows-then}
use Rattle.out_mps_lines.proofs.UnlessZero.{left_out, put_in}
use Rattle.out_mps_lines.proofs.put_coefficient.Goals as goal

pub returns-then-coefficient-eq0 : goal.returns-then-coefficient-eq0
unfolding coefficient_line
returns-then-coefficient-eq0 c = left_out c.ranges.coefficient _ c.if-coefficient-eq0.true

pub returns : goal.returns
unfolding coefficient_line fields material_name limit_name text
returns c =
    let figure = simp (to_z-of_z c.ranges.coefficient) at c.put_last.ensures in
    put_in c.ranges.coefficient _ c.if-coefficient-eq0.false
    (grows-then c.put_name.ensures (grows-then c.put_name-2.ensures figure))
