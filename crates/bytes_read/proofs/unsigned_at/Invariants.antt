-- Each turn takes one byte more, from the last to the first.
-- Before it, `value` is the number in the bytes after those that are left.
use Rattle.std.proofs.Common.{◌≡◌, ◌-◌, ◌+◌, ◌≤◌, ℕ, List, length, take, drop}
use Rattle.std.specs.Slice.Iter.{iter_rest}
use Rattle.std.specs.Iterator.Adapters.{rev_source}
use Rattle.bytes_read.specs.Inside.{ReadUnsigned}
use Rattle.bytes_read.proofs.unsigned_at.Given as goal

pub record Turn (s : List ℕ) (at width value : ℕ) (left : List ℕ) : Type 0 where
  pub within : length left ≤ width
  pub is : left ≡ take (length left) (drop at s)
  pub number : ReadUnsigned (width - length left) s (at + length left) value

abbrev pub invariant-loop-byte : goal.invariant-loop-byte
invariant-loop-byte l = Turn l.s l.at l.width l.value (iter_rest (rev_source l.byte-iterator))
