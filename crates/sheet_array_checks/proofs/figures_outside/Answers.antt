-- Each array is tested.
use Rattle.std.proofs.Common.{◌||◌}
use Rattle.sheet_arrays.specs.Tested.{arrays_outside}
use Rattle.sheet_array_checks.proofs.figures_outside.Goals as goal

pub returns : goal.returns
unfolding arrays_outside
returns c = rw (← c.arrays.view_is) (λ t.
    c.any_outside.ensures t
    || c.any_outside-2.ensures t
    || c.any_outside-3.ensures t
    || c.any_outside-4.ensures t
    || c.any_outside-5.ensures t
    || c.any_outside-6.ensures t)
