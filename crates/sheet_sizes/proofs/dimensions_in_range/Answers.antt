-- The product is formed where n and m lie in their ranges, and is small then.
use Rattle.std.proofs.Common.{◌≤◌, ◌≡◌, ap, true, arith, leb, le-leb, leb-true, zero-le}
use mathlib.Core.Bool.{◌&&◌, and-eq-true_iff}
use Rattle.rules.specs.declared.Shape.{Shape}
use Rattle.rules.specs.Ranges.{between, most_entries, largest, dimensions_in_range}
use Rattle.proof_laws.specs.Sizes.{few-entries}
use Rattle.sheet_sizes.proofs.dimensions_in_range.Goals as goal

-- n and m in their ranges leave so few entries that no sum wraps
few : (shape : Shape) → (between 1 32 shape.materials && between 0 16 shape.limits) ≡ true
    → most_entries shape ≤ most_entries largest
unfolding between
few shape h =
    let both = simp and-eq-true_iff at h in
    few-entries shape (omega (arith, leb-true)) (omega (arith, leb-true))

-- the test that the code has passed, as the definition has it
passed : (c : goal.Then-between) → (between 1 32 c.args.shape.materials && between 0 16 c.args.shape.limits) ≡ true
passed c = rw (c.between.ensures, c.between-2.ensures) at c.if-between.true

pub overflow_add-result : goal.overflow_add-result
overflow_add-result c = record { fits = omega (arith, few c.args.shape (passed c)) }

pub overflow_mul-result : goal.overflow_mul-result
overflow_mul-result c = record { fits = omega (arith, few c.args.shape (passed c)) }

pub overflow_mul-result-then-between : goal.overflow_mul-result-then-between
overflow_mul-result-then-between c = record { fits = omega (arith, few c.args.shape (passed c)) }

pub overflow_add-result-then-between : goal.overflow_add-result-then-between
overflow_add-result-then-between c = record { fits = omega (arith, few c.args.shape (passed c)) }

pub returns-then-between : goal.returns-then-between
unfolding dimensions_in_range between
returns-then-between c = rw (passed c, le-leb 0 c.args.e zero-le) (ap (leb c.args.e) (omega arith))

pub returns : goal.returns
unfolding dimensions_in_range
returns c = rw (← c.between.ensures, ← c.between-2.ensures, c.if-between.false)
