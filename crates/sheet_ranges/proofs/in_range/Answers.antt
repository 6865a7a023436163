-- The machine compares bits, and each of the three numbers fits its bits.
use Rattle.std.proofs.Common.{refl, rules, w32, FitsSigned}
use mir.Facts.{to_z-of_z}
use Rattle.rules.specs.Ranges.{in_range}
use Rattle.sheet_ranges.proofs.in_range.Goals as goal

pub returns : goal.returns
unfolding in_range
returns c =
    let least : FitsSigned w32 c.range_of-range.result.least = search rules in
    let greatest : FitsSigned w32 c.range_of-range.result.greatest = search rules in
    rw (to_z-of_z least, to_z-of_z greatest, to_z-of_z c.ranges.value, c.range_of-range.ensures) refl
