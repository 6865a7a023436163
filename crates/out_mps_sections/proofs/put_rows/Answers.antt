-- Each turn puts one row.
use Rattle.std.proofs.Common.{arith}
use Rattle.out_lines.specs.ManyLines.{grows-no_line, grows-line, grows-lines}
use Rattle.out_mps_sections.proofs.put_rows.Goals as goal

pub loop-i-init : goal.loop-i-init
loop-i-init c = grows-no_line

pub loop-i-preserved : goal.loop-i-preserved
loop-i-preserved c = grows-line c.loop-i.invariant (omega arith) c.put_row.ensures

pub returns : goal.returns
returns c = grows-lines c.loop-i.invariant (omega arith)
