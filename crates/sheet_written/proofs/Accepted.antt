-- A sheet that is read: what its refusals rule out, and so that it is what is written of its own sizes and table.
use Rattle.std.specs.Prelude.{◌≡◌, Bool, true, false, ◌||◌, List, ℕ, suc, ◌<◌, ◌≤◌, length, get_or}
use Rattle.std.proofs.Math.Path.{ap}
use Rattle.std.proofs.Math.Bool.{not}
use Rattle.std.proofs.Math.Option.{none}
use Rattle.std.proofs.Common.{arith, Fits}
use borrow.Author.Tests.{leb-false}
use Rattle.std.specs.Int.{w8}
use Rattle.proof_laws.specs.Entries.{no_figure_for, figure-at, good-key}
use Rattle.proof_laws.specs.Below.{holds, fails}
use Rattle.proof_laws.specs.Passed.{Passed, passed}
use Rattle.proof_laws.specs.Sizes.{SizesInRange, dimensions}
use Rattle.rules.specs.Notation.{is_zero}
use Rattle.rules.specs.Sheet.{Sheet, sheet_of, row_of, column_of, table_of}
use Rattle.rules.specs.Encoder.{all_keys, written}
use Rattle.rules.specs.Refusals.{no_figure_at, value_bad, not_above, bad_key, bad_value}
use Rattle.rules.specs.Refusals.{layout_refusal}
use Rattle.sheet_written.specs.Under.{RisingKeys, under_none}
use Rattle.sheet_written.specs.Support.{present}
use Rattle.sheet_written.proofs.Single.{Sheetlike, single}
use Rattle.sheet_written.specs.Shaped.{Shaped}

-- ---- an entry that passed
-- the parts of a test that fails
both-fail : (a b : Bool) → a || b ≡ false → (a ≡ false) × (b ≡ false)
both-fail true b h = let z : ◌≡◌ {A = ℕ} 0 1 = cc in absurd (omega arith)
both-fail false b h = (cc, h)

module _ (S : Sheet) where
  -- its value is not 0
  value-present : (i : ℕ) → bad_value S i ≡ false → present (S.value i) ≡ true
  unfolding bad_value value_bad
  value-present i h = ap not (both-fail (is_zero (S.value i)) _ h).0

  -- where each key is above the one before, keys rise
  rising-keys : ((i : ℕ) → i < S.entries → bad_key S i ≡ false) → RisingKeys S.key S.entries
  unfolding RisingKeys bad_key not_above
  rising-keys h i l = leb-false (S.key (suc i)) (S.key i) (both-fail (no_figure_for S (suc i)) _ (h (suc i) l)).1

  -- a key with a figure is one of all keys
  key-low : (i : ℕ) → S.sizes.shape.limits ≤ 16 → bad_key S i ≡ false → S.key i < all_keys
  key-low i few h =
      let (row, column) = figure-at S.sizes.shape (row_of (S.key i)) (column_of (S.key i)) (good-key S i h) in
      omega arith

-- so its bytes are as `single` asks
sheetlike : (s : List ℕ) → Passed (sheet_of s) (length s) → Sheetlike s
sheetlike s f =
    let S = sheet_of s in
    record {
      long = f.long;
      rising = rising-keys S f.keys;
      low = λ i l. key-low S i (dimensions _ _ (holds _ f.dimensions)).few (f.keys i l);
      not-zero = λ i l. value-present S i (fails _ (f.values i l));
    }

-- ---- the laws
-- a sheet that is read is what is written of its sizes and its table
pub accepted-single : (s : List ℕ) → ((i : ℕ) → Fits w8 (get_or s i 0)) → layout_refusal s ≡ none
    → written (sheet_of s).sizes (table_of (sheet_of s)) ≡ s
accepted-single s bytes h = single (sheetlike s (passed s h)) bytes

-- its sizes are in their ranges
pub accepted-sizes : (s : List ℕ) → layout_refusal s ≡ none → SizesInRange (sheet_of s).sizes.shape (sheet_of s).entries
accepted-sizes s h = dimensions _ _ (holds _ (passed s h).dimensions)

-- and its table is 0 where its shape has no figure
pub accepted-shaped : (s : List ℕ) → layout_refusal s ≡ none → Shaped (sheet_of s).sizes.shape (table_of (sheet_of s))
unfolding Shaped
accepted-shaped s h q l gap =
    let S = sheet_of s in
    under_none S S.entries q
    (λ i k e.
    let stands : no_figure_at S.sizes.shape (row_of q) (column_of q) ≡ false =
    rw e at (good-key S i ((passed s h).keys i k)) in
    let z : ◌≡◌ {A = ℕ} 0 1 = cc in
    omega arith)
