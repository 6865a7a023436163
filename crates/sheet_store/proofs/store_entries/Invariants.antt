-- The values of the entries below i are good and stored.
use Rattle.std.proofs.Common.{◌≡◌}
use Rattle.std.proofs.Math.Option.{none}
use Rattle.rules.specs.Sheet.{sheet_of, value_under}
use Rattle.rules.specs.Refusals.{bad_value}
use Rattle.proof_laws.specs.FirstPlace.{scan}
use Rattle.sheet_table.specs.Tabled.{tabled}
use Rattle.sheet_store.proofs.store_entries.Given as goal

abbrev pub invariant-loop-i : goal.invariant-loop-i
invariant-loop-i l = record {
  values : scan 6 (bad_value (sheet_of l.s)) l.i ≡ none;
  stored : l.table ≡ tabled (value_under (sheet_of l.s) l.i);
}
