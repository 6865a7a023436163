-- Each turn puts the bounds of one material after those before it.
use Rattle.rules.specs.Notation.{at as element}
use Rattle.rules_mps.specs.Mps.{bound_lines}
use Rattle.out_lines.specs.ManyLines.{LinesGrow}
use Rattle.out_mps_sections.proofs.put_all_bounds.Given as goal

abbrev pub invariant-loop-j : goal.invariant-loop-j
invariant-loop-j l =
    LinesGrow (λ j. bound_lines j (element l.f.least j) (element l.f.most j))
    l.f.materials l.fn.text l.text l.j
