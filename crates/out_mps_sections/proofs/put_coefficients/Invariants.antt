-- Each turn puts the coefficient of one limit after those before it.
use Rattle.std.proofs.Common.{◌+◌, ◌*◌}
use Rattle.rules.specs.Notation.{at as element}
use Rattle.rules_mps.specs.Mps.{coefficient_line}
use Rattle.out_lines.specs.ManyLines.{LinesGrow}
use Rattle.out_mps_sections.proofs.put_coefficients.Given as goal

abbrev pub invariant-loop-i : goal.invariant-loop-i
invariant-loop-i l =
    LinesGrow (λ i. coefficient_line l.j i (element l.coefficient (32 * i + l.j)))
    l.limits l.fn.text l.text l.i
