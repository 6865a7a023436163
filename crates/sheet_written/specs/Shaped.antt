-- A table of a shape, 0 wherever the shape has no figure, has no more entries than the shape has figures.
use Rattle.std.specs.Prelude.{◌≡◌, true, pos}
use Rattle.std.proofs.Math.Path.{ap}
use Rattle.std.proofs.Common.{◌∙◌, le_of_suc-le-suc, le_refl}
use Rattle.std.proofs.Math.Bool.{Bool, false}
use Prim.Native.Nat.{ℕ, zero, suc, ◌+◌, ◌-◌, ◌*◌, ◌<◌, ◌≤◌}
use native.Mathlib.Omega.{arith}
use Rattle.std.proofs.Math.ListN.{length}
use Rattle.proof_laws.specs.Entries.{key-parts, parts-key, past-materials, past-starts, past-limits}
use Rattle.rules.specs.declared.Shape.{Shape}
use Rattle.rules.specs.Sheet.{Table, key_of, row_of, column_of}
use Rattle.rules.specs.Ranges.{most_entries}
use Rattle.rules.specs.Encoder.{picked, all_keys, keys_of}
use Rattle.rules.specs.Refusals.{no_figure_at}
use Rattle.sheet_written.specs.Picked.{picked-skip, picked-adds}
use Rattle.sheet_written.specs.Support.{present, absent-zero}

-- a table is 0 where its shape has no figure
unfoldable pub Shaped : Shape → Table → Type 0
Shaped shape T = (q : ℕ) → q < all_keys → no_figure_at shape (row_of q) (column_of q) ≡ true → T q ≡ pos 0

-- ---- counting row by row
-- a row of which only the first w places pass a test adds at most w
row-adds : (test : ℕ → Bool) (row w : ℕ) → w ≤ 64 → ((c : ℕ) → w ≤ c → c < 64 → test (key_of row c) ≡ false)
    → length (picked (suc row * 64) test) ≤ length (picked (row * 64) test) + w
row-adds test row w narrow none =
    let other : (q : ℕ) → row * 64 + w ≤ q → q < suc row * 64 → test q ≡ false =
    λ q a b.
    let e : row * 64 + (q - row * 64) ≡ q = omega arith in
    rw e at (none (q - row * 64) (omega arith) (omega arith)) in
    rw (picked-skip (row * 64 + w) (suc row * 64) test (omega arith) other) (picked-adds test (row * 64) w)

-- of three rows only the first n places pass a test, and of m rows more only the first w
module _ (test : ℕ → Bool) (n w m : ℕ) (narrow : n ≤ 64) (wide : w ≤ 64)
    (low : (row c : ℕ) → row < 3 → n ≤ c → c < 64 → test (key_of row c) ≡ false)
    (high : (i c : ℕ) → i < m → w ≤ c → c < 64 → test (key_of (3 + i) c) ≡ false) where
  -- the first three
  rows-low : (row : ℕ) → row ≤ 3 → length (picked (row * 64) test) ≤ n * row
  unfolding picked
  rows-low zero l = omega arith
  rows-low (suc row) l =
      omega (arith, row-adds test row n narrow (λ c a b. low row c l a b), rows-low row (omega arith))

  -- and i more
  rows-high : (i : ℕ) → i ≤ m → length (picked ((3 + i) * 64) test) ≤ n * 3 + w * i
  rows-high zero l = omega (arith, rows-low 3 (omega arith))
  rows-high (suc i) l =
      let same : suc (3 + i) ≡ 3 + suc i = omega arith in
      let row = rw same at (row-adds test (3 + i) w wide (λ c a b. high i c l a b)) in
      omega (arith, row, rows-high i (omega arith))

-- ---- n figures in rows 0 to 2, n + 2 in those of the limits, and no row more
module _ (shape : Shape) (T : Table) (narrow : shape.materials ≤ 32) (few : shape.limits ≤ 16)
    (shaped : Shaped shape T) where
  -- a table has at most n(m+3)+2m keys with a figure
  pub few-keys : length (keys_of T) ≤ most_entries shape
  unfolding keys_of Shaped
  few-keys =
      let n = shape.materials in
      let m = shape.limits in
      let test : ℕ → Bool = λ q. present (T q) in
      let past : (q : ℕ) → (3 + m) * 64 ≤ q → q < all_keys → test q ≡ false =
      λ q a b.
      let none = past-limits shape (row_of q) (column_of q) (omega arith) in
      rw (parts-key q) at (gap (row_of q) (column_of q) (omega arith) (omega arith) none) in
      let most : length (picked ((3 + m) * 64) test) ≤ n * 3 + (n + 2) * m =
      rows-high test n (n + 2) m (omega arith) (omega arith)
      (λ row c l a b. gap row c (omega arith) b (past-materials shape row c (le_of_suc-le-suc l) a))
      (λ i c l a b. gap (3 + i) c (omega arith) b (past-starts shape (3 + i) c (omega arith)))
      m (le_refl m) in
      rw (picked-skip ((3 + m) * 64) all_keys test (omega arith) past) (omega arith)
    where
      -- where the shape has no figure, it is 0
      gap : (row c : ℕ) → row < 19 → c < 64 → no_figure_at shape row c ≡ true → present (T (key_of row c)) ≡ false
      gap row c l k h =
          let (row_back, column-back) = key-parts row c k in
          ap present (shaped (key_of row c) (omega arith) (rw (row_back, column-back) h)) ∙ absent-zero
