-- The three tests of the definition are the three calls.
use Rattle.std.proofs.Common.{refl}
use Rattle.rules.specs.Ranges.{parameters_in_range}
use Rattle.sheet_sizes.proofs.parameters_in_range.Goals as goal

pub returns : goal.returns
unfolding parameters_in_range
returns c = rw (c.between.ensures, c.between-2.ensures, c.between-3.ensures) refl
