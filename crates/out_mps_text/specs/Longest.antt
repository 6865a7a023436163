-- How long the text of a sheet that is read (T7.5) is at most.
use Prim.Native.Nat.{ℕ, ◌+◌, ◌*◌, ◌≤◌, ◌<◌}
use mathlib.Core.List.{List}
use Rattle.std.proofs.Math.Nat.{mul-le-mul_left}
use Rattle.std.proofs.Common.{arith}
use Rattle.std.specs.Prelude.{ℤ, pos, negsuc, ◌≤ℤ◌, length}
use Rattle.std.proofs.Math.Facts.{leb_yes}
use Rattle.std.proofs.Math.ListN.{length-append}
use Rattle.rules.specs.Problem.{Problem}
use Rattle.rules.specs.Listing.{text, decimal, lines}
use Rattle.rules_mps.specs.Mps.{row_line, coefficient_line, column_lines, rhs_line, bound_lines, mps_text, longest_mps}
use Rattle.proof_integer.specs.Order.{≤ℤ-trans}
use Rattle.proof_magnitudes.specs.Accepted.{Accepted}
use Rattle.out_numbers.specs.DecimalLength.{length-decimal-below, length-decimal-within}
use Rattle.out_mps_text.specs.Widths.{width, widths-few, length-numbered}
use Rattle.out_mps_text.specs.Widths.{length-row, length-cost, length-coefficient, length-rhs, length-bounds}

-- an amount from 0 to 1,000 has at most four digits
length-amount : (z : ℤ) → pos 0 ≤ℤ z → z ≤ℤ pos 1000 → length (decimal z) ≤ 4
length-amount (pos v) low high =
    length-decimal-below 4 v (omega arith) (omega (arith, leb_yes {a = v} {b = 1000} high.le))
length-amount (negsuc v) low high = absurd low.le

module _ {P : Problem} {k : ℕ} (a : Accepted P k) where
  abbrev n : ℕ
  n = P.materials

  abbrev m : ℕ
  m = P.limits

  -- ---- section by section

  rows : length (lines m row_line) ≤ 102
  rows =
      let few = a.limits-few in
      omega (arith, length-numbered 5 1 m row_line (λ i _. length-row i), widths-few m (omega arith))

  -- a coefficient of material j
  coefficient : (j : ℕ) → j < n → (i : ℕ) → i < m
      → length (coefficient_line j i (P.coefficient i j)) ≤ (11 + width j) + 1 * width i
  coefficient j l i h =
      length-coefficient j i (P.coefficient i j)
      (length-decimal-within 4 (P.coefficient i j) (omega (arith, (a.coefficient-in i h j l).bnd)))

  -- all of material j, with 16 limits
  column : (j : ℕ) → j < n
      → length (column_lines j m (P.cost j) (λ i. P.coefficient i j)) ≤ 213 + 17 * width j
  unfolding column_lines
  column j l =
      let few = a.limits-few in
      let cost = length-cost j (P.cost j) (length-decimal-within 5 (P.cost j) (omega (arith, (a.cost-in j l).bnd))) in
      let line : ℕ → List ℕ = λ i. coefficient_line j i (P.coefficient i j) in
      let coefficients = length-numbered (11 + width j) 1 m line (coefficient j l) in
      let most : (11 + width j) * m ≤ (11 + width j) * 16 = mul-le-mul_left (11 + width j) few in
      rw length-append (omega (arith, cost, coefficients, most, widths-few m (omega arith)))

  columns : length (lines n (λ j. column_lines j m (P.cost j) (λ i. P.coefficient i j))) ≤ 7734
  columns =
      let few = a.materials-few in
      let line : ℕ → List ℕ = λ j. column_lines j m (P.cost j) (λ i. P.coefficient i j) in
      omega (arith, length-numbered 213 17 n line column, widths-few n (omega arith))

  -- the right-hand side of limit i
  side : (i : ℕ) → i < m → length (rhs_line i (P.rhs i)) ≤ 17 + 1 * width i
  side i h = length-rhs i (P.rhs i) (length-decimal-within 8 (P.rhs i) (omega (arith, (a.rhs-in i h).bnd)))

  sides : length (lines m (λ i. rhs_line i (P.rhs i))) ≤ 294
  sides =
      let few = a.limits-few in
      omega (arith, length-numbered 17 1 m (λ i. rhs_line i (P.rhs i)) side, widths-few m (omega arith))

  -- the bounds of material j
  bound : (j : ℕ) → j < n → length (bound_lines j (P.least j) (P.most j)) ≤ 30 + 2 * width j
  bound j h =
      length-bounds j (P.least j) (P.most j)
      (length-amount (P.least j) (a.least-sign j h) (≤ℤ-trans (a.ordered j h) (a.most-in j h)))
      (length-amount (P.most j) (≤ℤ-trans (a.least-sign j h) (a.ordered j h)) (a.most-in j h))

  bounds : length (lines n (λ j. bound_lines j (P.least j) (P.most j))) ≤ 1068
  bounds =
      let few = a.materials-few in
      let line : ℕ → List ℕ = λ j. bound_lines j (P.least j) (P.most j) in
      omega (arith, length-numbered 30 2 n line bound, widths-few n (omega arith))

  -- ---- and all of them
  pub text-short : length (mps_text P) ≤ longest_mps
  unfolding mps_text longest_mps text
  text-short = simp length-append (omega (arith, rows, columns, sides, bounds))
