-- A space, the figure and a newline, one after the other.
use Rattle.std.proofs.Common.{to_z-of_z}
use Rattle.rules.specs.Listing.{text}
use Rattle.rules_mps.specs.Mps.{fields}
use Rattle.out_text.specs.Grows.{grows-then}
use Rattle.out_mps_fields.proofs.put_last.Goals as goal

pub returns : goal.returns
unfolding fields text
returns c =
    let figure = simp (to_z-of_z c.ranges.figure) at c.put_integer.ensures in
    grows-then (grows-then c.put_byte.ensures figure) c.put_byte-2.ensures
