use Rattle.std.proofs.Common.{refl}
use Rattle.rules_arrays.specs.Arrays.{lengths_match}
use Rattle.sheet_array_checks.proofs.lengths_match.Goals as goal

pub returns : goal.returns
unfolding lengths_match
returns c = rw (← c.arrays.view_is) refl
