-- The lines, one after the other.
use Rattle.rules.specs.Listing.{text}
use Rattle.out_text.specs.Grows.{grows-then}
use Rattle.out_mps_text.specs.Halves.{lower_text}
use Rattle.out_mps_text.proofs.put_lower.Goals as goal

pub returns : goal.returns
unfolding lower_text text
returns c =
    let rhs = grows-then c.put_bytes.ensures c.put_right_hand_sides.ensures in
    let bounds = grows-then (grows-then rhs c.put_bytes-2.ensures) c.put_all_bounds.ensures in
    grows-then bounds c.put_bytes-3.ensures
