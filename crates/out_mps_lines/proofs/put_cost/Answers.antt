-- The name of the material, that of the row, and the cost.
use Rattle.std.proofs.Math.Facts.{to_z-of_z}
use Rattle.rules.specs.Listing.{text}
use Rattle.rules_mps.specs.Mps.{material_name, fields, cost_line}
use Rattle.out_text.specs.Grows.{grows-then}
use Rattle.out_mps_lines.proofs.put_cost.Goals as goal

pub returns : goal.returns
unfolding cost_line fields material_name text
returns c =
    let cost = simp (to_z-of_z c.ranges.cost) at c.put_last.ensures in
    grows-then c.put_name.ensures (grows-then c.put_bytes.ensures cost)
