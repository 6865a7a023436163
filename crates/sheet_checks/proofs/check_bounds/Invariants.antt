-- No material below j has its least amount above its most.
use Rattle.std.proofs.Common.{◌≡◌}
use Rattle.std.proofs.Math.Option.{none}
use Rattle.rules.specs.Refusals.{crossed}
use Rattle.sheet_table.specs.Tabled.{table_in}
use Rattle.proof_laws.specs.FirstPlace.{scan}
use Rattle.sheet_checks.proofs.check_bounds.Given as goal

abbrev pub invariant-loop-j : goal.invariant-loop-j
invariant-loop-j l = scan 7 (crossed (table_in l.table)) l.j ≡ none
