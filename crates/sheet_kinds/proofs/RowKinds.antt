-- What stands in each kind of row.
use Prim.Native.Nat.{ℕ, suc, ◌+◌, ◌-◌, ◌≤◌, ◌<◌}
use mathlib.Core.Path.{◌≡◌}
use mathlib.Core.Bool.{◌||◌, and-true, and-false, or-false}
use native.Mathlib.Omega.{arith}
use lib.Dec.{ltb, leb}
use Rattle.rules.specs.declared.Shape.{Shape}
use borrow.Author.Tests.{lt-ltb, le-ltb, le-leb, lt-leb}
use Rattle.rules.specs.Ranges.{kind_at}
use Rattle.rules.specs.Refusals.{no_figure_at}
use Rattle.sheet_kinds.specs.Meaning.{meaning_at}
use Rattle.proof_laws.specs.Read.{gives, refused, unless}

module _ (shape : Shape) (row column : ℕ) where
  abbrev n : ℕ
  n = shape.materials

  abbrev m : ℕ
  m = shape.limits

  -- rows 0 to 2 end before column n
  pub material-row : row ≤ 2
      → unless 5 (ltb (n + 1) column || leb n column) (gives (kind_at shape row column)) ≡ meaning_at shape row column
  unfolding meaning_at no_figure_at
  material-row h = rw (le-ltb (m + 2) row (omega arith), le-leb row 2 h, and-true)

  -- the row of a limit ends after column n + 1
  pub limit-row : 3 ≤ row → row ≤ m + 2
      → unless 5 (ltb (n + 1) column) (gives (kind_at shape 3 column)) ≡ meaning_at shape row column
  unfolding meaning_at no_figure_at kind_at
  limit-row h k =
      -- `kind_at` counts rows by successors
      let three : row ≡ suc (suc (suc (row - 3))) = omega arith in
      rw (le-ltb (m + 2) row k, lt-leb row 2 h, and-false, or-false, three)

  -- there is no row above m + 2
  pub no_row : m + 2 < row → refused 5 ≡ meaning_at shape row column
  unfolding meaning_at no_figure_at unless
  no_row h = rw (lt-ltb (m + 2) row h)
