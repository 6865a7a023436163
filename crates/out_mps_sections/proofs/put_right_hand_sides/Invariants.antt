-- Each turn puts the right-hand side of one limit after those before it.
use Rattle.rules.specs.Notation.{at as element}
use Rattle.rules_mps.specs.Mps.{rhs_line}
use Rattle.out_lines.specs.ManyLines.{LinesGrow}
use Rattle.out_mps_sections.proofs.put_right_hand_sides.Given as goal

abbrev pub invariant-loop-i : goal.invariant-loop-i
invariant-loop-i l =
    LinesGrow (λ i. rhs_line i (element l.f.rhs i))
    l.f.limits l.fn.text l.text l.i
