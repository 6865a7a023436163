-- Bytes whose keys rise, with no value 0, are what is written of their own sizes and table.
use Rattle.std.specs.Prelude.{◌≡◌, true, List, map, ℕ, ◌<◌, get_or}
use Rattle.std.proofs.Math.Path.{ap}
use Rattle.std.proofs.Common.{◌∙◌, arith, Fits}
use Rattle.std.proofs.Math.ListN.{length}
use Rattle.std.specs.Int.{w8}
use Rattle.proof_integer.specs.Vector.{length-tabulate, tabulate-cong}
use Rattle.rules.specs.Notation.{tabulate}
use Rattle.rules.specs.Sheet.{header_length, sheet_length, sheet_of, Sheet, Table, table_of}
use Rattle.rules.specs.Encoder.{laid_out, sizes_with, all_keys, keys_of, written}
use Rattle.sheet_written.specs.Lists.{map-tabulate}
use Rattle.sheet_written.specs.Layout.{laid-out-back}
use Rattle.sheet_written.specs.Under.{RisingKeys}
use Rattle.sheet_written.proofs.Under.{under-key}
use Rattle.sheet_written.specs.Support.{present}
use Rattle.sheet_written.proofs.Support.{support-keys}

-- what is asked of bytes
pub record Sheetlike (s : List ℕ) : Type 0 where
  pub long : length s ≡ sheet_length (sheet_of s).entries
  pub rising : RisingKeys (sheet_of s).key (sheet_of s).entries
  pub low : (i : ℕ) → i < (sheet_of s).entries → (sheet_of s).key i < all_keys
  pub not-zero : (i : ℕ) → i < (sheet_of s).entries → present ((sheet_of s).value i) ≡ true

module _ {s : List ℕ} (f : Sheetlike s) where
  abbrev S : Sheet
  S = sheet_of s

  abbrev U : Table
  U = table_of S

  -- their keys are the keys of their table
  keys-are : keys_of U ≡ tabulate S.entries S.key
  unfolding keys_of
  keys-are = support-keys S S.entries all_keys f.rising f.low f.not-zero

  -- and their values its figures there
  values-are : map U (keys_of U) ≡ tabulate S.entries S.value
  values-are =
      ap (map U) keys-are
      ∙ map-tabulate U S.entries S.key
      ∙ tabulate-cong S.entries _ _ (under-key S S.entries f.rising)

  -- so they are what is written
  pub single : ((i : ℕ) → Fits w8 (get_or s i 0)) → written S.sizes U ≡ s
  unfolding written tabulate header_length
  single bytes =
      let count = ap length keys-are ∙ length-tabulate S.entries S.key in
      (λ t. laid_out (sizes_with S.sizes (count t)) (keys-are t) (values-are t))
      ∙ laid-out-back s bytes 6 S.entries (f.long ∙ omega arith)
