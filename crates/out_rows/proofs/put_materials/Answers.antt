-- Each turn puts the line of one material after those before it.
use Rattle.std.proofs.Common.{arith}
use Rattle.out_lines.specs.ManyLines.{grows-no_line, grows-line, grows-lines}
use Rattle.out_rows.proofs.put_materials.Goals as goal

pub loop-j-init : goal.loop-j-init
loop-j-init c = grows-no_line

pub loop-j-preserved : goal.loop-j-preserved
loop-j-preserved c = grows-line c.loop-j.invariant (omega arith) c.put_material.ensures

pub returns : goal.returns
returns c = grows-lines c.loop-j.invariant (omega arith)
