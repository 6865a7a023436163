-- The ranges of n, m and e (T2.6), read off their test; and the length of the header.
use Rattle.std.specs.Prelude.{◌≡◌, true, ℕ, ◌+◌, ◌*◌, ◌≤◌, T}
use Rattle.std.proofs.Common.{le_trans, mul-le-mul, arith}
use Rattle.std.specs.Float.Ieee.Fits.{and_l, and_r}
use Rattle.std.proofs.Math.Facts.{leb_yes}
use Rattle.rules.specs.declared.Shape.{Shape}
use Rattle.rules.specs.Sheet.{header_length}
use Rattle.rules.specs.Ranges.{between, most_entries, largest, dimensions_in_range}

-- where n and m lie in their ranges, few entries are allowed
pub few-entries : (shape : Shape) → shape.materials ≤ 32 → shape.limits ≤ 16 → most_entries shape ≤ most_entries largest
few-entries shape narrow few =
    let width : shape.limits + 3 ≤ 19 = omega arith in
    let product : shape.materials * (shape.limits + 3) ≤ 32 * 19 = mul-le-mul narrow width in
    omega arith

pub record SizesInRange (shape : Shape) (e : ℕ) : Type 0 where
  pub narrow : shape.materials ≤ 32
  pub few : shape.limits ≤ 16
  pub entries : e ≤ most_entries largest

pub dimensions : (shape : Shape) (e : ℕ) → dimensions_in_range shape e ≡ true → SizesInRange shape e
unfolding dimensions_in_range between
dimensions shape e h =
    let t : T (dimensions_in_range shape e) = rw h tt in
    let narrow : shape.materials ≤ 32 = search (and_l, and_r, leb_yes) in
    let few : shape.limits ≤ 16 = search (and_l, and_r, leb_yes) in
    let most : e ≤ most_entries shape = search (and_l, and_r, leb_yes) in
    record {
      narrow = narrow;
      few = few;
      entries = le_trans most (few-entries shape narrow few);
    }

-- a header is short, so that no place of a sheet wraps
pub short-header : header_length ≤ 64
unfolding header_length
short-header = omega arith
