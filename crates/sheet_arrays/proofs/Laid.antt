-- The bytes of the sheet of the arrays are those of its entries.
use Rattle.std.specs.Prelude.{◌≡◌, refl, List, [], ◌∷◌, ◌++◌, map, ℕ, ◌+◌, ◌*◌, ◌≤◌}
use Rattle.std.proofs.Common.{sym, ◌∙◌, arith, length-append}
use Rattle.std.proofs.Math.Path.{ap}
use Rattle.std.proofs.Math.ListN.{length}
use Rattle.std.proofs.lemmas.List.{length-map}
use Rattle.rules.specs.declared.Sizes.{Sizes}
use Rattle.rules.specs.Bytes.{unsigned_bytes, signed_bytes, laid}
use Rattle.rules.specs.Sheet.{Table, header_length}
use Rattle.rules.specs.Encoder.{laid_out, sizes_with, all_keys, keys_of, written}
use Rattle.rules_arrays.specs.Arrays.{Arrays, gathered, sheet_from}
use Rattle.rules_arrays.specs.ReadBack.{figures_present}
use Rattle.sheet_arrays.specs.Runs.{Entry, run, run-table}
use Rattle.sheet_arrays.specs.Lengths.{LengthsMatch}
use Rattle.sheet_arrays.specs.Listed.{entries_of}
use Rattle.sheet_arrays.proofs.Listed.{entries-listed}
use Rattle.sheet_arrays.proofs.Counted.{entries-length}
use Rattle.sheet_arrays.specs.Laid.{key_bytes, value_bytes, size_bytes, length-keys, length-values, length-sizes}

laid-map : {A B : Type 0} (bytes : B → List ℕ) (g : A → B) (xs : List A)
    → laid bytes (map g xs) ≡ laid (λ x. bytes (g x)) xs
unfolding laid
laid-map bytes g [] = refl
laid-map bytes g (x ∷ xs) = ap (λ (t : List ℕ). bytes (g x) ++ t) (laid-map bytes g xs)

-- ---- what is written of a table is the bytes of its entries
table-laid : (z : Sizes) (T : Table) → let es = run 0 all_keys T in
    written z T ≡ size_bytes z (length es) ++ key_bytes es ++ value_bytes es
unfolding written laid_out keys_of size_bytes key_bytes value_bytes
table-laid z T =
    let ks = keys_of T in
    let es : run 0 all_keys T ≡ map (λ q. record { key = q; value = T q }) ks = run-table T all_keys in
    let count : length (run 0 all_keys T) ≡ length ks = ap length es ∙ length-map ks _ in
    let keys = ap (laid (λ x. unsigned_bytes 2 x.key)) es ∙ laid-map (λ x. unsigned_bytes 2 x.key) _ ks in
    let values = ap (laid (λ x. signed_bytes 4 x.value)) es ∙ laid-map (λ x. signed_bytes 4 x.value) _ ks
    ∙ sym (laid-map (signed_bytes 4) T ks) in
    λ t. sym (ap (λ (e : ℕ). laid (unsigned_bytes 2) (sizes_with z e)) count) t ++ sym keys t ++ sym values t

-- ---- the sheet of the arrays
module _ (z : Sizes) (A : Arrays) (narrow : z.shape.materials ≤ 32) (few : z.shape.limits ≤ 16) where
  abbrev es : List Entry
  es = entries_of z.shape A

  pub sheet-laid : sheet_from z A ≡ size_bytes z (length es) ++ key_bytes es ++ value_bytes es
  unfolding sheet_from
  sheet-laid =
      table-laid z (gathered z.shape A)
      ∙ (λ t. let xs = entries-listed z.shape A narrow few t in
      size_bytes z (length xs) ++ key_bytes xs ++ value_bytes xs)

  -- T13.10: 12 bytes, and 6 for each figure that is not 0
  pub sheet-length : LengthsMatch z.shape A → length (sheet_from z A) ≡ 12 + 6 * figures_present A
  unfolding header_length
  sheet-length match =
      ap length sheet-laid
      ∙ simp (length-append, length-sizes, length-keys, length-values, entries-length z.shape A match) (omega arith)
