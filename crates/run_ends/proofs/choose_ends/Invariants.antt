-- After j turns the first j places hold the ends that the signed costs choose.
use Rattle.std.proofs.Common.{◌≡◌}
use Rattle.sheet_figures.specs.Padded.{filled}
use Rattle.run_ends.specs.SignedEnds.{materials_of, signed_end}
use Rattle.run_ends.proofs.choose_ends.Given as goal

abbrev pub invariant-loop-j : goal.invariant-loop-j
invariant-loop-j l = l.ends ≡ filled 32 (signed_end l.sign (materials_of l.f)) l.j
