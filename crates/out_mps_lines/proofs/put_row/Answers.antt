-- The name and a newline.
use Rattle.rules.specs.Listing.{text}
use Rattle.rules_mps.specs.Mps.{limit_name, fields, row_line}
use Rattle.out_text.specs.Grows.{grows-then}
use Rattle.out_mps_lines.proofs.put_row.Goals as goal

pub returns : goal.returns
unfolding row_line fields limit_name text
returns c = grows-then c.put_name.ensures c.put_byte.ensures
