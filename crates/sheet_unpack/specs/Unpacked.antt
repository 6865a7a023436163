-- What taking a row, the rows of the limits and a column out of the table asks.
use Rattle.std.specs.Prelude.{List, ℕ, ◌+◌, ◌<◌, ◌≤◌, ℤ}
use Rattle.std.specs.Int.{w16}
use Rattle.std.proofs.Common.{SFits}
use Rattle.rules.specs.Sheet.{key_of}
use Rattle.sheet_table.specs.Tabled.{table_in}

-- the row is one of the table's, and its first n figures fit 16 bits
pub record RowFits (table : List ℤ) (row n : ℕ) : Type 0 where
  pub row_in : row < 19
  pub narrow : n ≤ 32
  pub fits : (j : ℕ) → j < n → SFits w16 (table_in table (key_of row j))

-- so it is with the row of each limit
pub record RowsFit (table : List ℤ) (n m : ℕ) : Type 0 where
  pub few : m ≤ 16
  pub narrow : n ≤ 32
  pub fits : (i j : ℕ) → i < m → j < n → SFits w16 (table_in table (key_of (3 + i) j))

-- the column is one of the table's
pub record ColumnFits (column m : ℕ) : Type 0 where
  pub few : m ≤ 16
  pub column-in : column < 34
