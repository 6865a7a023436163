-- Each turn puts all of one material.
use Rattle.std.proofs.Common.{arith}
use Rattle.out_lines.specs.ManyLines.{grows-no_line, grows-line, grows-lines}
use Rattle.out_mps_sections.proofs.put_columns.Goals as goal

pub loop-material-init : goal.loop-material-init
loop-material-init c = grows-no_line

pub loop-material-preserved : goal.loop-material-preserved
loop-material-preserved c = grows-line c.loop-material.invariant (omega arith) c.put_column.ensures

pub returns : goal.returns
returns c = grows-lines c.loop-material.invariant (omega arith)
