-- How long a line is by the numbers in it, and how long lines are whose numbers rise.
use Rattle.std.specs.Prelude.{◌≡◌, refl, List, [], Bool, true, false, cond, ℕ, zero, suc, ◌+◌, ◌-◌, ◌*◌, ◌≤◌, ◌<◌, ltb}
use Rattle.std.specs.Prelude.{ℤ, pos, length}
use Rattle.std.proofs.Common.{mul-suc, mul-add, arith, ltb-true, ltb-false, length-append}
use Rattle.rules.specs.Notation.{is_zero}
use Rattle.rules.specs.Listing.{text, decimal, lines}
use Rattle.rules_mps.specs.Mps.{material_name, limit_name, fields, unless_zero, row_line, cost_line, coefficient_line}
use Rattle.rules_mps.specs.Mps.{rhs_line, bound_lines}
use Rattle.out_numbers.specs.DecimalLength.{length-decimal-below}

-- how many digits a number has
abbrev pub width : ℕ → ℕ
width i = length (decimal (pos i))

-- ---- lines

length-unless : (v : ℤ) (line : List ℕ) {b : ℕ} → length line ≤ b → length (unless_zero v line) ≤ b
unfolding unless_zero
length-unless v line {b} h = elim (is_zero v) as (λ z. length (cond z [] line) ≤ b) [
  | true ↦ omega arith
  | false ↦ h
]

pub length-row : (i : ℕ) → length (row_line i) ≤ 5 + 1 * width i
unfolding row_line fields limit_name text
length-row i = simp length-append (omega arith)

pub length-cost : (j : ℕ) (c : ℤ) → length (decimal c) ≤ 6 → length (cost_line j c) ≤ 15 + width j
unfolding cost_line fields material_name text
length-cost j c h = simp length-append (omega (arith, h))

pub length-coefficient : (j i : ℕ) (a : ℤ) → length (decimal a) ≤ 5
    → length (coefficient_line j i a) ≤ (11 + width j) + 1 * width i
unfolding coefficient_line fields material_name limit_name text
length-coefficient j i a h = length-unless a _ (simp length-append (omega (arith, h)))

pub length-rhs : (i : ℕ) (b : ℤ) → length (decimal b) ≤ 9 → length (rhs_line i b) ≤ 17 + 1 * width i
unfolding rhs_line fields limit_name text
length-rhs i b h = length-unless b _ (simp length-append (omega (arith, h)))

pub length-bounds : (j : ℕ) (l u : ℤ) → length (decimal l) ≤ 4 → length (decimal u) ≤ 4
    → length (bound_lines j l u) ≤ 30 + 2 * width j
unfolding bound_lines fields material_name text
length-bounds j l u h k = simp length-append (omega (arith, h, k))

-- ---- lines with rising numbers

-- how many digits the numbers below n have together
unfoldable pub widths : ℕ → ℕ
widths zero = 0
widths (suc n) = widths n + width n

-- a number below 10 has one, and one below 100 two at most
width_few : (n : ℕ) → n < 100 → n + (n - 10) + width n ≤ suc n + (suc n - 10)
width_few n h = by (ltb n 10) refl
  where
    by : (b : Bool) → ltb n 10 ≡ b → n + (n - 10) + width n ≤ suc n + (suc n - 10)
    by true l =
        let below : n < 10 = ltb-true n 10 l in
        omega (arith, length-decimal-below 1 n (omega arith) (omega arith))
    by false l =
        let from : 10 ≤ n = ltb-false n 10 l in
        omega (arith, length-decimal-below 2 n (omega arith) (omega arith))

pub widths-few : (n : ℕ) → n ≤ 100 → widths n ≤ n + (n - 10)
unfolding widths
widths-few zero h = omega arith
widths-few (suc n) h = omega (arith, widths-few n (omega arith), width_few n (omega arith))

-- n lines, each of at most b bytes and w for each digit of its number
pub length-numbered : (b w n : ℕ) (f : ℕ → List ℕ) → ((i : ℕ) → i < n → length (f i) ≤ b + w * width i)
    → length (lines n f) ≤ b * n + w * widths n
unfolding lines widths
length-numbered b w zero f h = omega arith
length-numbered b w (suc n) f h =
    rw (length-append, mul-suc, mul-add)
    (omega (arith, length-numbered b w n f (λ i l. h i (omega arith)), h n (omega arith)))
