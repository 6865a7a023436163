-- After j turns the first j places hold their amounts.
use Rattle.std.proofs.Common.{◌≡◌}
use Rattle.rules.specs.Notation.{at}
use Rattle.rules.specs.Step.{amount}
use Rattle.sheet_figures.specs.Figures.{problem_of}
use Rattle.sheet_figures.specs.Padded.{filled}
use Rattle.run_amounts.proofs.choose_amounts.Given as goal

abbrev pub invariant-loop-j : goal.invariant-loop-j
invariant-loop-j l = l.amounts ≡ filled 32 (amount (problem_of l.f l.coefficient) (at l.multipliers)) l.j
