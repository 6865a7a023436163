-- Each turn puts the line of one limit after those before it.
use Rattle.out_rows.specs.RecordLines.{limit_line}
use Rattle.out_lines.specs.ManyLines.{LinesGrow}
use Rattle.out_rows.proofs.put_limits.Given as goal

abbrev pub invariant-loop-i : goal.invariant-loop-i
invariant-loop-i l = LinesGrow (limit_line l.record l.multipliers l.totals) l.m l.fn.text l.text l.i
