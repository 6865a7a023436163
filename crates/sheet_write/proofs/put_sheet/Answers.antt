-- The sizes, and then all entries.
use Rattle.std.proofs.Common.{◌≡◌, rules, ap, ◌∙◌, MutBor, List, ℕ, length, arith}
use Rattle.rules.specs.declared.Sizes.{Sizes}
use Rattle.rules_arrays.specs.Arrays.{Arrays, sheet_from}
use Rattle.bytes_write.specs.Written.{written, written_at}
use Rattle.sheet_arrays.specs.Laid.{size_bytes}
use Rattle.sheet_arrays.specs.Listed.{entries_of}
use Rattle.sheet_put.specs.declared.EntryWriter.{EntryWriter}
use Rattle.sheet_put.specs.Put.{Put, put_entries}
use Rattle.sheet_rows.specs.Ready.{EntriesReady}
use Rattle.sheet_write.specs.Ready.{SheetReady}
use Rattle.sheet_write.specs.Whole.{all-entries, sizes-fit, sheet-put}
use Rattle.sheet_write.proofs.put_sheet.Goals as goal

-- a writer of e entries that has put none
abbrev begun : ℕ → MutBor (List ℕ) → EntryWriter
begun e sheet = record { sheet = sheet; entries = e; count = 0 }

-- the sizes are put
module _ {e : ℕ} (z : Sizes) (A : Arrays) (d : List ℕ) {sheet : MutBor (List ℕ)} (ready : SheetReady e z A d)
    (sized : sheet.now ≡ written (size_bytes z e) d) where
  entries-ready : EntriesReady (entries_of z.shape A) z.shape A (begun e sheet)
  unfolding written_at
  entries-ready =
      let same = ap length sized ∙ sizes-fit z A d ready in
      let all = all-entries z A d ready in
      record {
        room = record { few = ready.short; enough = omega (arith, all); long = omega (arith, same, ready.room) };
        narrow = ready.narrow;
        few = ready.few;
        lengths = ready.lengths;
      }

  whole : {w : EntryWriter} → Put (entries_of z.shape A) (begun e sheet) w → w.sheet.now ≡ written (sheet_from z A) d
  whole put = put.buffer ∙ ap (put_entries e 0 (entries_of z.shape A)) sized ∙ sheet-put z A d ready

pub put_entries-requires : goal.put_entries-requires
put_entries-requires c = entries-ready c.args.sizes _ c.args.sheet.now c.requires c.put_sizes.ensures

pub returns : goal.returns
returns c =
    let put = whole c.args.sizes _ c.args.sheet.now c.requires c.put_sizes.ensures c.put_entries.ensures in
    search rules
