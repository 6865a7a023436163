-- After i turns the first i places hold their residuals.
use Rattle.std.proofs.Common.{◌≡◌}
use Rattle.rules.specs.Notation.{at}
use Rattle.rules.specs.Step.{residual}
use Rattle.sheet_figures.specs.Figures.{problem_of}
use Rattle.sheet_figures.specs.Padded.{filled}
use Rattle.run_look.proofs.take_residuals.Given as goal

abbrev pub invariant-loop-i : goal.invariant-loop-i
invariant-loop-i l = l.residuals ≡ filled 16 (residual (problem_of l.f l.coefficient) (at l.amounts)) l.i
