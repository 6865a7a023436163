-- Where there is no such place nothing is stored, and `set` leaves the list as it is.
use Rattle.std.proofs.Common.{sym}
use Rattle.std.proofs.Math.Seq.{set_out}
use Rattle.out_numbers.proofs.set_byte.Goals as goal

pub returns-else-place-bytes : goal.returns-else-place-bytes
returns-else-place-bytes c = sym (set_out _ _ _ c.if-place-bytes.false)
