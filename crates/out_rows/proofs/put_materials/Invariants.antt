-- Each turn puts the line of one material after those before it.
use Rattle.out_rows.specs.RecordLines.{material_line}
use Rattle.out_lines.specs.ManyLines.{LinesGrow}
use Rattle.out_rows.proofs.put_materials.Given as goal

abbrev pub invariant-loop-j : goal.invariant-loop-j
invariant-loop-j l = LinesGrow (material_line l.record) l.n l.fn.text l.text l.j
