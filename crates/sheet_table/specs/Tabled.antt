-- The table of figures by key in an array: 19 rows of 34 columns. Every key that names a figure has a place in it:
-- 3 rows of materials and 16 of limits; 32 columns of materials, that of b, and that of the starts.
use Rattle.std.specs.Prelude.{◌≡◌, refl, false, cond, List, ℕ, ◌+◌, ◌*◌, ◌/◌, ◌%◌, ◌<◌, ltb, ℤ, pos}
use Rattle.std.specs.Prelude.{replicate}
use Rattle.std.proofs.Common.{arith, lt-ltb}
use Rattle.rules.specs.declared.Shape.{Shape}
use Rattle.rules.specs.Notation.{tabulate, at}
use Rattle.rules.specs.Sheet.{Table, key_of, row_of, column_of}
use Rattle.rules.specs.Refusals.{no_figure_at}
use Rattle.proof_laws.specs.Sizes.{SizesInRange}
use Rattle.proof_laws.specs.Entries.{key-parts, figure-at}
use Rattle.proof_integer.specs.Tabulated.{tabulate-zero}

-- the row and the column are the table's
pub record InTable (row column : ℕ) : Type 0 where
  pub row_in : row < 19
  pub column-in : column < 34

-- those of a figure are
pub figure-in-table : {shape : Shape} {e : ℕ} (row column : ℕ) → SizesInRange shape e
    → no_figure_at shape row column ≡ false → InTable row column
figure-in-table {shape} row column sizes h =
    let (row_in, column-in) = figure-at shape row column h in
    record { row_in = omega (arith, sizes.few); column-in = omega (arith, sizes.narrow) }

-- the place of a row and a column
abbrev pub place_at : ℕ → ℕ → ℕ
place_at row column = 34 * row + column

-- the key whose figure stands at place x
abbrev pub key_in : ℕ → ℕ
key_in x = key_of (x / 34) (x % 34)

-- the table that stands in an array: columns from 34 on have no figure
unfoldable pub table_in : List ℤ → Table
table_in t key = cond (ltb (column_of key) 34) (at t (place_at (row_of key) (column_of key))) (pos 0)

pub table_at : (t : List ℤ) (row : ℕ) {column : ℕ} → column < 34
    → table_in t (key_of row column) ≡ at t (place_at row column)
unfolding table_in
table_at t row {column} l = let (r, c) = key-parts row column (omega arith) in rw (r, c, lt-ltb column 34 l)

-- the array of a table
unfoldable pub tabled : Table → List ℤ
tabled T = tabulate 646 (λ x. T (key_in x))

-- the table of zeros
pub tabled-zero : tabled (λ _. pos 0) ≡ replicate 646 (pos 0)
unfolding tabled
tabled-zero = tabulate-zero 646 (λ _. pos 0) (λ _ _. refl)

module _ {row column : ℕ} (h : InTable row column) where
  pub place-below : place_at row column < 646
  place-below = omega (arith, h.row_in, h.column-in)
