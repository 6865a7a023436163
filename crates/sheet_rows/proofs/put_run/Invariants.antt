-- The entries of the figures below j are put.
use Rattle.rules.specs.Notation.{at}
use Rattle.sheet_arrays.specs.Runs.{run}
use Rattle.sheet_put.specs.Put.{Put}
use Rattle.sheet_rows.proofs.put_run.Given as goal

abbrev pub invariant-loop-j : goal.invariant-loop-j
invariant-loop-j l = Put (run l.first l.j (at l.figures)) l.initial.writer l.writer
