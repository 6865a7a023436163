-- A space, and then the number.
use Rattle.std.proofs.Common.{to_z-of_z}
use Rattle.rules.specs.Listing.{text}
use Rattle.out_text.specs.Grows.{grows-then}
use Rattle.out_lines.proofs.put_figure.Goals as goal

pub returns : goal.returns
unfolding text
returns c = grows-then c.put_byte.ensures (simp (to_z-of_z c.ranges.v) at c.put_integer.ensures)
