-- After i bytes, the rest of the number in the rest of the bytes gives the whole.
use Rattle.std.proofs.Common.{◌≡◌, ℕ, ◌-◌, ◌≤◌, List, ◌++◌, length, take}
use Rattle.rules.specs.Bytes.{unsigned_bytes}
use Rattle.bytes_write.proofs.put_unsigned.Given as goal

pub record Turn (w v : ℕ) (part : List ℕ) (rest i : ℕ) : Type 0 where
  pub within : i ≤ w
  pub long : length part ≡ w
  pub whole : take i part ++ unsigned_bytes (w - i) rest ≡ unsigned_bytes w v

abbrev pub invariant-loop-byte : goal.invariant-loop-byte
invariant-loop-byte l = Turn l.width l.v l.byte-items l.rest l.byte-index
