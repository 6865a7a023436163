-- The keys of the entries below i are good, and `floor` is the least key that entry i may have.
use Rattle.std.proofs.Common.{◌≡◌}
use Rattle.std.proofs.Math.Option.{none}
use Rattle.rules.specs.Sheet.{sheet_of}
use Rattle.rules.specs.Refusals.{bad_key}
use Rattle.proof_laws.specs.FirstPlace.{scan}
use Rattle.sheet_checks.proofs.Floor.{floor_of}
use Rattle.sheet_checks.proofs.check_keys.Given as goal

abbrev pub invariant-loop-i : goal.invariant-loop-i
invariant-loop-i l = record {
  keys : scan 5 (bad_key (sheet_of l.s)) l.i ≡ none;
  floor_is : l.floor ≡ floor_of (sheet_of l.s) l.i;
}
