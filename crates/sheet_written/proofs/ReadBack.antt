-- What is written is read back: the sizes, the keys and the values, and so the table.
use Rattle.std.specs.Prelude.{◌≡◌, refl, false, List, [], ◌++◌, map, ℕ, zero, suc, ◌<◌, length}
use Rattle.std.proofs.Math.Path.{ap}
use Rattle.std.proofs.Common.{◌∙◌, append-nil, arith}
use Rattle.std.proofs.lemmas.Bool.{lt-leb}
use Rattle.std.proofs.Math.ListN.{get_or, length-map, get_or-map}
use mir.Syntax.{w32}
use mir.Val.{SFits}
use Rattle.rules.specs.declared.Sizes.{Sizes}
use Rattle.rules.specs.Bytes.{signed_at}
use Rattle.rules.specs.Sheet.{header_length, size_at, value_at, sheet_length, Sheet, sheet_of, Table, value_under}
use Rattle.rules.specs.Encoder.{laid_out, sizes_with, keys_of, written}
use Rattle.rules.specs.Refusals.{not_above}
use Rattle.sheet_written.specs.Lists.{Rises}
use Rattle.sheet_written.specs.Layout.{length-laid-out, size-read, key-read, value_read}
use Rattle.sheet_written.specs.Support.{keys_below, keys-rise, keys-few}
use Rattle.sheet_written.specs.Listed.{Listed, under-keys}
use Rattle.sheet_written.specs.ReadBack.{Fit, ReadsTable}

-- keys that are listed rise
rising-listed : (S : Sheet) (T : Table) (xs : List ℕ) → Listed S T xs → Rises xs
    → (i : ℕ) → i < length xs → not_above S i ≡ false
unfolding not_above Rises
rising-listed S T xs f rises zero l = refl
rising-listed S T xs f rises (suc i) l =
    lt-leb (S.key (suc i)) (S.key i) (omega (arith, f.key i (omega arith), f.key (suc i) l, rises i l))

-- ---- what is written is read back, whatever follows it
module _ {z : Sizes} {T : Table} (fit : Fit z T) (rest : List ℕ) where
  -- what is laid out
  abbrev keys : List ℕ
  keys = keys_of T

  abbrev sizes : List ℕ
  sizes = sizes_with z (length keys)

  abbrev r : List ℕ
  r = laid_out sizes keys (map T keys) ++ rest

  -- each size
  size_back : (i : ℕ) → i < 6 → get_or sizes i 0 < 65536 → size_at r i ≡ get_or sizes i 0
  size_back = size-read sizes keys (map T keys) rest

  -- the sizes
  sizes-back : (sheet_of r).sizes ≡ z
  sizes-back = λ t. record {
    shape = record {
      materials = size_back 0 (omega arith) fit.sizes.materials t;
      limits = size_back 1 (omega arith) fit.sizes.limits t;
    };
    numerator = size_back 3 (omega arith) fit.sizes.numerator t;
    scale = size_back 4 (omega arith) fit.sizes.scale t;
    steps = size_back 5 (omega arith) fit.sizes.steps t;
  }

  -- the number of entries
  entries-back : (sheet_of r).entries ≡ length keys
  entries-back = size_back 2 (omega arith) (omega (arith, keys-few T))

  -- the entries
  listed_back : Listed (sheet_of r) T keys
  unfolding header_length
  listed_back = record {
    key = λ i l. key-read sizes keys (map T keys) rest i l (omega (arith, keys_below T i l));
    value = λ i l.
        let same : get_or (map T keys) i (T 0) ≡ T (get_or keys i 0) = get_or-map T keys i 0 in
        let fits : SFits w32 (get_or (map T keys) i (T 0)) =
        rw same (fit.values (get_or keys i 0) (keys_below T i l)) in
        ap (λ e. signed_at 4 r (value_at e i)) entries-back
        ∙ value_read sizes keys (map T keys) rest (T 0) i (rw length-map l) fits
        ∙ same;
  }

  -- and so the table
  pub read_back : ReadsTable z T (written z T ++ rest)
  unfolding written
  read_back = record {
    sizes = sizes-back;
    entries = entries-back;
    listed = listed_back;
    values = λ q l.
        ap (λ e. value_under (sheet_of r) e q) entries-back ∙ under-keys (sheet_of r) T listed_back q l;
    rising = λ i l. rising-listed (sheet_of r) T keys listed_back (keys-rise T) i (rw entries-back at l);
  }

-- and so where nothing follows it
pub read-alone : {z : Sizes} {T : Table} → Fit z T → ReadsTable z T (written z T)
read-alone fit = rw append-nil at (read_back fit [])

-- the length of what is written
pub length-written : (z : Sizes) (T : Table) → length (written z T) ≡ sheet_length (length (keys_of T))
unfolding written header_length
length-written z T =
    let keys = keys_of T in
    length-laid-out (sizes_with z (length keys)) keys (map T keys) (length-map keys T) ∙ omega arith
