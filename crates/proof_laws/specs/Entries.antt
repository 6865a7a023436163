-- Entries: the row and the column of a key (T3.1) decide a kind of figure (T3.2), and a good key stands for one.
use Rattle.std.specs.Prelude.{◌≡◌, refl, Bool, true, false, not, cond, ◌&&◌, ◌||◌, T, ltb, leb, eqb, ℤ, pos, negsuc}
use Rattle.std.specs.Prelude.{nat_abs}
use Rattle.std.proofs.Common.{ap}
use Rattle.std.proofs.Math.Bool.{or-true}
use Prim.Native.Nat.{ℕ, suc, ◌+◌, ◌<◌, ◌≤◌}
use native.Mathlib.Omega.{arith}
use borrow.Author.Tests.{lt-ltb, le-leb, eq-eqb, ne_eqb}
use Rattle.std.proofs.Math.Facts.{or_no, ltb_no}
use Rattle.rules.specs.declared.Shape.{Shape}
use Rattle.rules.specs.declared.Kind.TheVariants.{Coefficient, Rhs, Start}
use Rattle.rules.specs.Notation.{is_zero}
use Rattle.rules.specs.Sheet.{Sheet, key_of, row_of, column_of}
use Rattle.rules.specs.Ranges.{kind_at}
use Rattle.rules.specs.Refusals.{no_figure_at, not_above, bad_key}

-- a key gives its row and its column back
pub key-parts : (row column : ℕ) → column < 64
    → (row_of (key_of row column) ≡ row) × (column_of (key_of row column) ≡ column)
key-parts row column l = omega arith

-- and they give the key
pub parts-key : (key : ℕ) → key_of (row_of key) (column_of key) ≡ key
parts-key key = omega arith

-- in the row of limit i: `kind_at` matches on three `suc`, and 3 + i does not compute to them
module _ (shape : Shape) (i : ℕ) where
  abbrev n : ℕ
  n = shape.materials

  limit-kind : (column : ℕ)
      → kind_at shape (3 + i) column ≡ cond (eqb column n) Rhs (cond (eqb column (n + 1)) Start Coefficient)
  unfolding kind_at
  limit-kind column = let three : 3 + i ≡ suc (suc (suc i)) = omega arith in rw three

  pub coefficient-kind : (j : ℕ) → j < n → kind_at shape (3 + i) j ≡ Coefficient
  coefficient-kind j l = rw (limit-kind, ne_eqb j n (λ e. omega arith), ne_eqb j (n + 1) (λ e. omega arith))

  pub rhs-kind : kind_at shape (3 + i) n ≡ Rhs
  rhs-kind = rw (limit-kind, eq-eqb n n refl)

  pub start-kind : kind_at shape (3 + i) (n + 1) ≡ Start
  start-kind = rw (limit-kind, ne_eqb (n + 1) n (λ e. omega arith), eq-eqb (n + 1) (n + 1) refl)

-- ---- the test for 0 is one of the absolute value
pub nonzero : (v : ℤ) → (v ≡ pos 0 → ⊥) → is_zero v ≡ false
unfolding is_zero
nonzero v h = ne_eqb (nat_abs v) 0 (λ e. h (zero_of v e))
  where
    zero_of : (v : ℤ) → nat_abs v ≡ 0 → v ≡ pos 0
    zero_of (pos k) e = ap pos e
    zero_of (negsuc k) e = absurd (omega arith)

-- ---- where a figure stands
-- a figure's row is at most m + 2, and its column at most n + 1
pub figure-at : (shape : Shape) (row column : ℕ) → no_figure_at shape row column ≡ false
    → (row ≤ shape.limits + 2) × (column ≤ shape.materials + 1)
unfolding no_figure_at
figure-at shape row column h =
    let n = shape.materials in
    let t : T (not (no_figure_at shape row column)) = rw h tt in
    let (outside, last) = or_no (ltb (shape.limits + 2) row || ltb (n + 1) column) (leb n column && leb row 2) t in
    let (r, c) = or_no (ltb (shape.limits + 2) row) (ltb (n + 1) column) outside in
    (ltb_no r, ltb_no c)

-- ---- where none does
module _ (shape : Shape) (row column : ℕ) where
  -- past the materials, in the first three rows
  pub past-materials : row ≤ 2 → shape.materials ≤ column → no_figure_at shape row column ≡ true
  unfolding no_figure_at
  past-materials r l = rw (le-leb shape.materials column l, le-leb row 2 r, or-true)

  -- past the starts
  pub past-starts : shape.materials + 1 < column → no_figure_at shape row column ≡ true
  unfolding no_figure_at
  past-starts l = rw (lt-ltb (shape.materials + 1) column l, or-true)

  -- past the rows of the limits
  pub past-limits : shape.limits + 2 < row → no_figure_at shape row column ≡ true
  unfolding no_figure_at
  past-limits l = rw (lt-ltb (shape.limits + 2) row l)

-- does the key of entry i stand for no figure?
abbrev pub no_figure_for : Sheet → ℕ → Bool
no_figure_for S i = no_figure_at S.sizes.shape (row_of (S.key i)) (column_of (S.key i))

-- a good key stands for one
pub good-key : (S : Sheet) (i : ℕ) → bad_key S i ≡ false → no_figure_for S i ≡ false
unfolding bad_key
good-key S i h = or_left (no_figure_for S i) (not_above S i) h
  where
    or_left : (a b : Bool) → a || b ≡ false → a ≡ false
    or_left true b h = h
    or_left false b h = refl
