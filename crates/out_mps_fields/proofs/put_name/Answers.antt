-- What stands before the number, and then the number.
use Rattle.out_text.specs.Grows.{grows-then}
use Rattle.out_mps_fields.proofs.put_name.Goals as goal

pub returns : goal.returns
returns c = grows-then c.put_bytes.ensures c.put_number.ensures
