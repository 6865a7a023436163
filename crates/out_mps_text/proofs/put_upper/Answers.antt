-- The lines, one after the other.
use Rattle.rules.specs.Listing.{text}
use Rattle.out_text.specs.Grows.{grows-then}
use Rattle.out_mps_text.specs.Halves.{upper_text}
use Rattle.out_mps_text.proofs.put_upper.Goals as goal

pub returns : goal.returns
unfolding upper_text text
returns c =
    let rows = grows-then c.put_bytes.ensures c.put_rows.ensures in
    grows-then (grows-then rows c.put_bytes-2.ensures) c.put_columns.ensures
