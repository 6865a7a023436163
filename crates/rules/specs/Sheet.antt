-- TASK.md, T2 and T3: a sheet is sizes and a table of figures by key. Here from bytes to the figures; Encoder has the
-- way back.
use Rattle.std.specs.Prelude.{ℕ, zero, suc, ◌+◌, ◌*◌, ◌/◌, ◌%◌, cond, List, ℤ, pos, eqb}
use Rattle.rules.specs.declared.Sizes.{Sizes}
use Rattle.rules.specs.Bytes.{unsigned_at, signed_at}
use Rattle.rules.specs.Problem.{Problem}

-- ---- the layout of the bytes

-- T2.2, how long the header is: six sizes of 2 bytes
unfoldable pub header_length : ℕ
header_length = 2 * 6

-- T2.2, size i of a sheet's bytes
abbrev pub size_at : List ℕ → ℕ → ℕ
size_at s i = unsigned_at 2 s (2 * i)

-- T2.4, where key i stands: keys of 2 bytes follow the header
abbrev pub key_at : ℕ → ℕ
key_at i = header_length + 2 * i

-- T2.4, where value i of e stands: values of 4 bytes follow the keys
abbrev pub value_at : ℕ → ℕ → ℕ
value_at e i = key_at e + 4 * i

-- T2.5, the length of a sheet of e entries: it ends after its values
abbrev pub sheet_length : ℕ → ℕ
sheet_length e = value_at e e

-- ---- a sheet that has been read

-- the sizes n, m, p, D and k
abbrev pub sized : (n m p D k : ℕ) → Sizes
sized n m p D k = record { shape = record { materials = n; limits = m }; numerator = p; scale = D; steps = k }

-- T2.3, T2.4: the sizes n, m, p, D and k; e; and the entries, of which entry i has key i and value i.
pub record Sheet : Type 0 where
  pub sizes : Sizes
  -- e
  pub entries : ℕ
  pub key : ℕ → ℕ
  pub value : ℕ → ℤ

-- T2.2: the sizes are n, m, e, p, D and k, in this order.
abbrev pub sheet_of : List ℕ → Sheet
sheet_of s =
    record {
      sizes = record {
        shape = record { materials = size_at s 0; limits = size_at s 1 };
        numerator = size_at s 3;
        scale = size_at s 4;
        steps = size_at s 5;
      };
      entries = size_at s 2;
      key = λ i. unsigned_at 2 s (key_at i);
      value = λ i. signed_at 4 s (value_at (size_at s 2) i);
    }

-- ---- figures by key

-- T3.1, the key of a row and a column
abbrev pub key_of : ℕ → ℕ → ℕ
key_of row column = row * 64 + column

-- T3.1, the row and the column of a key
abbrev pub row_of : ℕ → ℕ
row_of key = key / 64

abbrev pub column_of : ℕ → ℕ
column_of key = key % 64

-- a table: the figure under each key, 0 where there is none
abbrev pub Table : Type 0
Table = ℕ → ℤ

module _ (S : Sheet) where
  -- the value of the entry with this key among the first e; 0 where there is none
  unfoldable pub value_under : ℕ → Table
  value_under zero key = pos 0
  value_under (suc e) key = cond (eqb (S.key e) key) (S.value e) (value_under e key)

  -- T3.3, the table of a sheet: 0 where a key has no entry
  abbrev pub table_of : Table
  table_of = value_under S.entries

-- T3.2, the figures of a table by material and limit
unfoldable pub problem_from : Sizes → Table → Problem
problem_from z T =
    let n = z.shape.materials in
    record {
      materials = n;
      limits = z.shape.limits;
      numerator = z.numerator;
      scale = z.scale;
      cost = λ j. T (key_of 0 j);
      least = λ j. T (key_of 1 j);
      most = λ j. T (key_of 2 j);
      coefficient = λ i j. T (key_of (3 + i) j);
      rhs = λ i. T (key_of (3 + i) n);
      starting_multiplier = λ i. T (key_of (3 + i) (n + 1));
    }

-- the problem of a sheet that has been read
abbrev pub problem : Sheet → Problem
problem S = problem_from S.sizes (table_of S)
