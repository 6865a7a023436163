-- The digits of the bytes so far are put.
use Rattle.std.proofs.Common.{◌≡◌, ◌*◌, ◌≤◌, take}
use Rattle.gate_frames.specs.Shown.{hex_of}
use Rattle.gate_frames.proofs.shown.put_digits.Given as goal

abbrev pub invariant-loop-byte : goal.invariant-loop-byte
invariant-loop-byte l = (l.end ≤ 2 * l.byte-index) × (take l.end l.digits ≡ hex_of (take l.byte-index l.fn.bytes))
