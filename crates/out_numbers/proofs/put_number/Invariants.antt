-- Before each turn the places from `at` to `place` are still to take the last digits of `left`, one each.
use Rattle.std.proofs.Common.{◌≡◌, ◌-◌, ◌≤◌, pos}
use Rattle.rules.specs.Listing.{decimal}
use Rattle.out_numbers.proofs.Digits.{ending_digits}
use Rattle.out_numbers.proofs.LastFirst.{StillToStore}
use Rattle.out_numbers.proofs.put_number.Given as goal

abbrev pub invariant-loop-place : goal.invariant-loop-place
invariant-loop-place l = record {
  same_bytes : l.text.bytes.ghost_name ≡ l.fn.text.bytes.ghost_name;
  from : l.at ≤ l.place;
  stored : StillToStore
      (decimal (pos l.v)) l.fn.text.bytes.now l.at
      (ending_digits (l.place - l.at) l.left) l.text.bytes.now;
}
