-- Each turn puts the row of one limit after those before it.
use Rattle.rules_mps.specs.Mps.{row_line}
use Rattle.out_lines.specs.ManyLines.{LinesGrow}
use Rattle.out_mps_sections.proofs.put_rows.Given as goal

abbrev pub invariant-loop-i : goal.invariant-loop-i
invariant-loop-i l = LinesGrow row_line l.m l.fn.text l.text l.i
