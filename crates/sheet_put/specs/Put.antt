-- Entries in a buffer that takes a sheet of e entries: their keys from 12 on, their values from 12 + 2e on.
use Rattle.std.specs.Prelude.{◌≡◌, refl, List, [], ◌++◌, ℕ, ◌+◌, ◌*◌, ◌≤◌, ℤ, pos}
use Rattle.std.proofs.Common.{sym, ◌∙◌, append-nil, add-zero, arith, take-append-drop}
use Rattle.std.proofs.Math.Path.{ap}
use Rattle.std.proofs.Math.ListN.{length, length-append}
use Rattle.rules.specs.Bytes.{unsigned_bytes, signed_bytes, laid}
use Rattle.bytes_write.specs.Written.{written, written_at}
use Rattle.bytes_write.specs.Placed.{length-placed, placed_on, placed-apart}
use Rattle.sheet_arrays.specs.Runs.{Entry, entry, entry-none, entry-one}
use Rattle.sheet_put.specs.declared.EntryWriter.{EntryWriter}
use Rattle.sheet_arrays.specs.Laid.{key_bytes, value_bytes, keys-append, values-append, length-keys, length-values}

-- the buffer, once entries are put after the first c
unfoldable pub put_entries : ℕ → ℕ → List Entry → List ℕ → List ℕ
put_entries e c es d = written_at (12 + 2 * e + 4 * c) (value_bytes es) (written_at (12 + 2 * c) (key_bytes es) d)

-- the buffer takes all entries, and among them so many more after those that are put
pub record EntriesRoom (more : ℕ) (w : EntryWriter) : Type 0 where
  pub few : w.entries ≤ 640
  pub enough : w.count + more ≤ w.entries
  pub long : 12 + 6 * w.entries ≤ length w.sheet.now

-- entries are put after those before, and counted; the writer stays that of the same buffer and as many entries
pub record Put (es : List Entry) (before after : EntryWriter) : Type 0 where
  pub same : after.sheet.ghost_name ≡ before.sheet.ghost_name
  pub buffer : after.sheet.now ≡ put_entries before.entries before.count es before.sheet.now
  pub entries : after.entries ≡ before.entries
  pub count : after.count ≡ before.count + length es

-- none is put
pub put-none : (w : EntryWriter) → Put [] w w
unfolding put_entries written_at written key_bytes value_bytes laid
put-none w = record {
  same = refl;
  buffer =
      sym (take-append-drop (12 + 2 * w.entries + 4 * w.count) _ ∙ take-append-drop (12 + 2 * w.count) w.sheet.now);
  entries = refl;
  count = sym (add-zero w.count);
}

-- ---- laws of putting entries
module _ (es : List Entry) (w : EntryWriter) (room : EntriesRoom (length es) w) where
  keys-fit : 12 + 2 * w.count + length (key_bytes es) ≤ length w.sheet.now
  keys-fit = omega (arith, length-keys es, room.enough, room.long)

  pub length-put : length (put_entries w.entries w.count es w.sheet.now) ≡ length w.sheet.now
  unfolding put_entries
  length-put =
      let keys-at = 12 + 2 * w.count in
      let same = length-placed keys-at (key_bytes es) w.sheet.now keys-fit in
      length-placed (12 + 2 * w.entries + 4 * w.count) (value_bytes es) (written_at keys-at (key_bytes es) w.sheet.now)
      (omega (arith, length-values es, same, room.enough, room.long))
      ∙ same

-- ---- room for fewer
pub room-less : {more : ℕ} {w : EntryWriter} (less : ℕ) → EntriesRoom more w → less ≤ more → EntriesRoom less w
room-less less room l = record { few = room.few; enough = omega (arith, room.enough); long = room.long }

-- ---- entries after entries, where there is room for all
module _ (xs ys : List Entry) {w : EntryWriter} (room : EntriesRoom (length (xs ++ ys)) w) where
  all : w.count + (length xs + length ys) ≤ w.entries
  all = omega (arith, room.enough, length-append xs ys)

  pub room-first : EntriesRoom (length xs) w
  room-first = room-less (length xs) room (omega (arith, length-append xs ys))

  -- the first of them are put
  module _ {v : EntryWriter} (first : Put xs w v) where
    pub room_next : EntriesRoom (length ys) v
    room_next =
        let same = ap length first.buffer ∙ length-put xs w room-first in
        record {
          few = omega (arith, room.few, first.entries);
          enough = omega (arith, all, first.count, first.entries);
          long = omega (arith, room.long, same, first.entries);
        }

    -- and then the others
    pub put-more : {u : EntryWriter} → Put ys v u → Put (xs ++ ys) w u
    unfolding put_entries
    put-more second =
        let d = w.sheet.now in
        let keys-at = 12 + 2 * w.count in
        let values-at = 12 + 2 * w.entries + 4 * w.count in
        let kx = key_bytes xs in
        let ky = key_bytes ys in
        let vx = value_bytes xs in
        let vy = value_bytes ys in
        let key-place : 12 + 2 * v.count ≡ keys-at + length kx = omega (arith, first.count, length-keys xs) in
        let value-place : 12 + 2 * v.entries + 4 * v.count ≡ values-at + length vx =
        omega (arith, first.count, first.entries, length-values xs) in
        let keys_in : keys-at + length kx ≤ length d = omega (arith, length-keys xs, all, room.long) in
        let keyed = written_at keys-at kx d in
        let same : length keyed ≡ length d = length-placed keys-at kx d keys_in in
        let apart = placed-apart (keys-at + length kx) values-at ky vx keyed
        (omega (arith, length-keys xs, length-keys ys, all))
        (omega (arith, same, all, room.long)) in
        let keys = placed_on keys-at kx ky d keys_in in
        let both-keyed = written_at keys-at (kx ++ ky) d in
        let both-same : length both-keyed ≡ length d = length-placed keys-at (kx ++ ky) d
        (omega (arith, length-append kx ky, length-keys xs, length-keys ys, all, room.long)) in
        let values = placed_on values-at vx vy both-keyed
        (omega (arith, both-same, length-values xs, all, room.long)) in
        record {
          same = second.same ∙ first.same;
          buffer =
              second.buffer
              ∙ (λ t. written_at (value-place t) vy (written_at (key-place t) ky (first.buffer t)))
              ∙ ap (written_at (values-at + length vx) vy) (apart ∙ ap (written_at values-at vx) keys)
              ∙ values
              ∙ (λ t.
              written_at values-at (sym (values-append xs ys) t) (written_at keys-at (sym (keys-append xs ys) t) d));
          entries = second.entries ∙ first.entries;
          count = second.count ∙ omega (arith, first.count, length-append xs ys);
        }

-- ---- the entry of a figure
-- a figure of 0 has none
pub put-absent : (key : ℕ) {figure : ℤ} (w : EntryWriter) → figure ≡ pos 0 → Put (entry key figure) w w
put-absent key w z = rw (entry-none key z) (put-none w)

-- any other is a key and a value
pub put-present : (key : ℕ) (figure : ℤ) {w v : EntryWriter} {keyed : List ℕ} → (figure ≡ pos 0 → ⊥)
    → keyed ≡ written_at (12 + 2 * w.count) (unsigned_bytes 2 key) w.sheet.now
    → v.sheet.now ≡ written_at (12 + 2 * w.entries + 4 * w.count) (signed_bytes 4 figure) keyed
    → v.sheet.ghost_name ≡ w.sheet.ghost_name → v.entries ≡ w.entries → v.count ≡ w.count + 1
    → Put (entry key figure) w v
unfolding put_entries key_bytes value_bytes laid
put-present key figure {w} there wrote-key wrote-value same entries count =
    let values-at = 12 + 2 * w.entries + 4 * w.count in
    let key-bytes = sym (append-nil (unsigned_bytes 2 key)) in
    let value-bytes = sym (append-nil (signed_bytes 4 figure)) in
    rw (entry-one key figure there) (record {
      same = same;
      buffer =
          wrote-value
          ∙ (λ t. written_at values-at (value-bytes t) (wrote-key t))
          ∙ (λ t.
          written_at values-at (signed_bytes 4 figure ++ []) (written_at (12 + 2 * w.count) (key-bytes t) w.sheet.now));
      entries = entries;
      count = count;
    })
