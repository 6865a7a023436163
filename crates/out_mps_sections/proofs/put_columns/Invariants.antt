-- Each turn puts all of one material after those before it.
use Rattle.std.proofs.Common.{◌+◌, ◌*◌}
use Rattle.rules.specs.Notation.{at as element}
use Rattle.rules_mps.specs.Mps.{column_lines}
use Rattle.out_lines.specs.ManyLines.{LinesGrow}
use Rattle.out_mps_sections.proofs.put_columns.Given as goal

abbrev pub invariant-loop-material : goal.invariant-loop-material
invariant-loop-material l =
    LinesGrow (λ j. column_lines j l.f.limits (element l.f.cost j) (λ i. element l.coefficient (32 * i + j)))
    l.f.materials l.fn.text l.text l.material
