-- Refusal 6, array by array: a figure that is neither 0 nor in the range of its kind.
use Rattle.std.specs.Prelude.{Bool, ◌&&◌, List, ℤ, length}
use Rattle.std.proofs.Math.Bool.{not, ◌||◌}
use Rattle.rules.specs.Notation.{is_zero, any_below, at}
use Rattle.rules.specs.declared.Kind.{Kind}
use Rattle.rules.specs.declared.Kind.TheVariants.{Cost, Least, Most, Coefficient, Rhs, Start}
use Rattle.rules.specs.Ranges.{range_of, in_range}
use Rattle.rules_arrays.specs.Arrays.{Arrays}

-- is a figure of a kind neither 0 nor in its range?
unfoldable pub outside : Kind → ℤ → Bool
outside kind figure = not (is_zero figure) && not (in_range (range_of kind) figure)

-- some figure of an array?
unfoldable pub any_outside : Kind → List ℤ → Bool
any_outside kind xs = any_below (length xs) (λ i. outside kind (at xs i))

-- some figure of some array?
unfoldable pub arrays_outside : Arrays → Bool
arrays_outside A =
    any_outside Cost A.costs
    || any_outside Least A.least_amounts
    || any_outside Most A.most_amounts
    || any_outside Coefficient A.coefficients
    || any_outside Rhs A.right_hand_sides
    || any_outside Start A.starts
