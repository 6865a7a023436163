-- The sizes and then all entries are the sheet.
use Rattle.std.specs.Prelude.{◌≡◌, ℕ, ◌+◌, ◌*◌}
use Rattle.std.proofs.Common.{sym, ◌∙◌, arith}
use Rattle.std.proofs.Math.Path.{ap}
use mathlib.Core.List.{List, ◌++◌}
use Rattle.std.proofs.Math.ListN.{length, length-append}
use Rattle.rules.specs.declared.Sizes.{Sizes}
use Rattle.rules.specs.Sheet.{header_length}
use Rattle.rules_arrays.specs.Arrays.{Arrays, sheet_from}
use Rattle.bytes_write.specs.Written.{written, written_at}
use Rattle.bytes_write.specs.Placed.{length-placed, placed_on}
use Rattle.sheet_arrays.specs.Runs.{Entry}
use Rattle.sheet_arrays.specs.Listed.{entries_of}
use Rattle.sheet_arrays.proofs.Counted.{entries-length}
use Rattle.sheet_arrays.specs.Laid.{key_bytes, value_bytes, size_bytes, length-keys, length-sizes}
use Rattle.sheet_arrays.proofs.Laid.{sheet-laid}
use Rattle.sheet_put.specs.Put.{put_entries}
use Rattle.sheet_write.specs.Ready.{SheetReady}

module _ {e : ℕ} (z : Sizes) (A : Arrays) (d : List ℕ) (ready : SheetReady e z A d) where
  abbrev es : List Entry
  es = entries_of z.shape A

  pub all-entries : length es ≡ e
  all-entries = entries-length z.shape A ready.lengths ∙ sym ready.entries

  long-sizes : length (size_bytes z e) ≡ 12
  unfolding header_length
  long-sizes = length-sizes z e

  pub sizes-fit : length (written_at 0 (size_bytes z e) d) ≡ length d
  sizes-fit = length-placed 0 (size_bytes z e) d (omega (arith, long-sizes, ready.room))

  pub sheet-put : put_entries e 0 es (written (size_bytes z e) d) ≡ written (sheet_from z A) d
  unfolding put_entries written_at
  sheet-put =
      let front = size_bytes z e in
      let keys = key_bytes es in
      let values = value_bytes es in
      let key-place : 12 + 2 * 0 ≡ 0 + length front = omega (arith, long-sizes) in
      let value-place : 12 + 2 * e + 4 * 0 ≡ 0 + length (front ++ keys) =
      omega (arith, length-append front keys, long-sizes, length-keys es, all-entries) in
      let keyed = placed_on 0 front keys d (omega (arith, long-sizes, ready.room)) in
      let valued = placed_on 0 (front ++ keys) values d
      (omega (arith, length-append front keys, long-sizes, length-keys es, all-entries, ready.room)) in
      (λ t. written_at (value-place t) values (written_at (key-place t) keys (written_at 0 front d)))
      ∙ ap (written_at (0 + length (front ++ keys)) values) keyed
      ∙ valued
      ∙ ap (λ (k : ℕ). written (size_bytes z k ++ keys ++ values) d) (sym all-entries)
      ∙ ap (λ (bytes : List ℕ). written bytes d) (sym (sheet-laid z A ready.narrow ready.few))
