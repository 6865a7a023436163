-- Nothing for 0; else the name and the right-hand side.
use Rattle.std.proofs.Math.Facts.{to_z-of_z}
use Rattle.rules.specs.Listing.{text}
use Rattle.rules_mps.specs.Mps.{limit_name, fields, rhs_line}
use Rattle.out_text.specs.Grows.{grows-then}
use Rattle.out_mps_lines.proofs.UnlessZero.{left_out, put_in}
use Rattle.out_mps_lines.proofs.put_rhs.Goals as goal

pub returns-then-rhs-eq0 : goal.returns-then-rhs-eq0
unfolding rhs_line
returns-then-rhs-eq0 c = left_out c.ranges.rhs _ c.if-rhs-eq0.true

pub returns : goal.returns
unfolding rhs_line fields limit_name text
returns c =
    let figure = simp (to_z-of_z c.ranges.rhs) at c.put_last.ensures in
    put_in c.ranges.rhs _ c.if-rhs-eq0.false (grows-then c.put_name.ensures figure)
