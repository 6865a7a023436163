-- What the tests that the code makes say of a key and of an entry.
use mathlib.Core.Path.{◌≡◌}
use mathlib.Core.Bool.{true, false}
use Prim.Native.Nat.{ℕ, ◌≤◌, ◌<◌}
use borrow.Author.Tests.{lt-ltb, le-ltb}
use lib.IntN.{ℤ, pos}
use Rattle.rules.specs.declared.Shape.{Shape}
use Rattle.rules.specs.Notation.{is_zero}
use Rattle.rules.specs.Sheet.{row_of, column_of}
use Rattle.rules.specs.Ranges.{range_of, kind_at, in_range}
use Rattle.rules.specs.Refusals.{no_figure_at, value_bad}
use Rattle.proof_laws.specs.Entries.{nonzero}
use Rattle.proof_laws.specs.Read.{gives, refused, unless}
use Rattle.sheet_entries.specs.KeyRead.{key_read}
use Rattle.sheet_entries.specs.EntryRead.{entry_read}

-- ---- a key
module _ (shape : Shape) (floor key : ℕ) where
  pub no-figure : no_figure_at shape (row_of key) (column_of key) ≡ true → key_read shape floor key ≡ refused 5
  unfolding key_read unless
  no-figure h = rw h

  module _ (h : no_figure_at shape (row_of key) (column_of key) ≡ false) where
    pub low-key : key < floor → key_read shape floor key ≡ refused 5
    unfolding key_read unless
    low-key l = rw (h, lt-ltb key floor l)

    pub good-key : floor ≤ key → key_read shape floor key ≡ gives key
    unfolding key_read unless
    good-key l = rw (h, le-ltb key floor l)

-- ---- an entry
module _ (shape : Shape) (key : ℕ) (value : ℤ) where
  pub no-entry : no_figure_at shape (row_of key) (column_of key) ≡ true → entry_read shape key value ≡ refused 5
  unfolding entry_read unless
  no-entry h = rw h

  module _ (h : no_figure_at shape (row_of key) (column_of key) ≡ false) where
    pub zero-value : value ≡ pos 0 → entry_read shape key value ≡ refused 6
    unfolding entry_read unless value_bad is_zero
    zero-value e = rw (h, e)

    module _ (other : value ≡ pos 0 → ⊥) where
      pub out_of_range : in_range (range_of (kind_at shape (row_of key) (column_of key))) value ≡ false
          → entry_read shape key value ≡ refused 6
      unfolding entry_read unless value_bad
      out_of_range k = rw (h, nonzero value other, k)

      pub in-range : in_range (range_of (kind_at shape (row_of key) (column_of key))) value ≡ true
          → entry_read shape key value ≡ gives value
      unfolding entry_read unless value_bad
      in-range k = rw (h, nonzero value other, k)
