-- The entries of the limits below i are put.
use Rattle.sheet_put.specs.Put.{Put}
use Rattle.sheet_rows.specs.Ready.{limits_of}
use Rattle.sheet_rows.proofs.put_limits.Given as goal

abbrev pub invariant-loop-i : goal.invariant-loop-i
invariant-loop-i l = Put (limits_of l.shape l.arrays l.i) l.initial.writer l.writer
