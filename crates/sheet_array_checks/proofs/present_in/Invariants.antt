-- `count` is how many of the figures so far are not 0.
use Rattle.std.proofs.Common.{◌≡◌}
use Rattle.rules.specs.Notation.{at}
use Rattle.sheet_arrays.specs.Counted.{counted}
use Rattle.sheet_array_checks.proofs.present_in.Given as goal

abbrev pub invariant-loop-figure : goal.invariant-loop-figure
invariant-loop-figure l = l.count ≡ counted l.figure-index (at l.figures)
