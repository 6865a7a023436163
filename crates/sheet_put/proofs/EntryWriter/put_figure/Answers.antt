-- A figure of 0 has no entry; any other has its key and its value.
use Rattle.std.proofs.Common.{◌≡◌, refl, sym, ap, ◌∙◌, ℕ, ℤ, pos, length, arith, w32, w64, to_z, of_z, to_z-of_z, ◌+◌}
use Rattle.std.proofs.Common.{◌≤◌}
use Rattle.proof_integer.specs.Range.{widened_is}
use Rattle.sheet_arrays.specs.Runs.{entry, entry-one}
use Rattle.sheet_put.specs.declared.EntryWriter.{EntryWriter}
use Rattle.sheet_put.specs.Put.{EntriesRoom, put-absent, put-present}
use Rattle.sheet_put.proofs.EntryWriter.put_figure.Goals as goal

-- a figure whose bits are not those of 0 is not 0
not_zero : {figure : ℤ} → (of_z w32 figure ≡ 0 → ⊥) → figure ≡ pos 0 → ⊥
not_zero h e = h (ap (of_z w32) e)

-- there is room for the entry of such a figure
one : {w : EntryWriter} (key : ℕ) (figure : ℤ) → (figure ≡ pos 0 → ⊥)
    → EntriesRoom (length (entry key figure)) w → w.count + 1 ≤ w.entries
one key figure h room = omega (arith, ap length (entry-one key figure h), room.enough)

pub returns-then-figure-eq0 : goal.returns-then-figure-eq0
returns-then-figure-eq0 c =
    put-absent c.args.key c.args.self.now (sym (to_z-of_z c.ranges.figure) ∙ ap (to_z w32) c.if-figure-eq0.true)

pub put_unsigned-requires : goal.put_unsigned-requires
put_unsigned-requires c =
    let fits = one c.args.key c.args.figure (not_zero c.if-figure-eq0.false) c.requires in
    record { room = omega arith }

pub put_signed-requires : goal.put_signed-requires
put_signed-requires c =
    let fits = one c.args.key c.args.figure (not_zero c.if-figure-eq0.false) c.requires in
    rw (c.from.ensures, widened_is w64 {v = w32} tt c.ranges.figure)
    (record { room = omega arith; narrow = omega arith; small = c.ranges.figure.sfits })

pub returns : goal.returns
returns c =
    put-present c.args.key c.args.figure (not_zero c.if-figure-eq0.false)
    c.put_unsigned.ensures
    (rw (c.from.ensures, widened_is w64 {v = w32} tt c.ranges.figure) at c.put_signed.ensures) refl refl refl
