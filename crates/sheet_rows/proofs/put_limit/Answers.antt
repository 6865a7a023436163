-- The coefficients, the right-hand side and the start, each after those before.
use Rattle.std.proofs.Common.{◌≡◌, rules, sym, ap, ◌∙◌, List, ◌++◌, ℕ, ◌+◌, ◌*◌, ◌<◌, ◌≤◌, ℤ, pos, length, add-zero}
use Rattle.std.proofs.Common.{arith, w32, to_z-of_z, slice_range, drop, length-take, length-drop, mul-suc}
use Rattle.std.proofs.Common.{mul-le-mul_left}
use Rattle.std.proofs.lemmas.List.{get_or-take, get_or-drop}
use mir.Val.{SFits}
use Rattle.rules.specs.Notation.{at}
use Rattle.rules.specs.Sheet.{key_of}
use Rattle.rules.specs.declared.Shape.{Shape}
use Rattle.rules_arrays.specs.Arrays.{Arrays}
use Rattle.sheet_arrays.specs.Runs.{Entry, entry, run, run-cong}
use Rattle.sheet_arrays.specs.Listed.{limit_entries}
use Rattle.sheet_put.specs.declared.EntryWriter.{EntryWriter}
use Rattle.sheet_put.specs.Put.{Put, EntriesRoom}
use Rattle.sheet_rows.specs.Ready.{limit_of, RunReady, EntriesReady}
use Rattle.sheet_rows.proofs.Parts.{room-for-first, room-for-second, room-for-third, put-three}
use Rattle.sheet_rows.proofs.put_limit.Goals as goal

-- ---- n figures of a list from a place on
module _ (xs : List ℤ) (from n : ℕ) (inside : from + n ≤ length xs) where
  abbrev part : List ℤ
  part = slice_range xs from (from + n)

  part-long : length part ≡ n
  part-long = omega (arith, length-take {A = ℤ}, length-drop {A = ℤ})

  part-at : (j : ℕ) → j < n → at part j ≡ at xs (from + j)
  part-at j l = get_or-take _ (drop from xs) j (pos 0) (omega arith) ∙ get_or-drop from xs j (pos 0)

  part-run : (first : ℕ) → run first n (λ j. at xs (from + j)) ≡ run first (length part) (at part)
  part-run first = rw part-long (run-cong first n _ _ (λ j l. sym (part-at j l)))

-- ---- the three parts of the entries
module _ {z : Shape} {A : Arrays} {i : ℕ} {w : EntryWriter} (ready : EntriesReady (limit_of z A i) z A w)
    (l : i < z.limits) where
  abbrev n : ℕ
  n = z.materials

  inside : n * i + n ≤ length A.coefficients
  inside = omega (arith, mul-suc n i, mul-le-mul_left n l, ready.lengths.coefficients)

  abbrev row : List ℤ
  row = slice_range A.coefficients (n * i) (n * i + n)

  abbrev coefficients : List Entry
  coefficients = run ((3 + i) * 64) (length row) (at row)

  abbrev rhs : List Entry
  rhs = entry (key_of (3 + i) n) (at A.right_hand_sides i)

  abbrev start : List Entry
  start = entry (key_of (3 + i) (n + 1)) (at A.starts i)

  parts : limit_of z A i ≡ coefficients ++ rhs ++ start
  unfolding limit_entries
  parts =
      let run-is = part-run A.coefficients (n * i) n inside ((3 + i) * 64) in
      rw add-zero (ap (λ (es : List Entry). es ++ rhs ++ start) run-is)

  room : EntriesRoom (length (coefficients ++ rhs ++ start)) w
  room = rw parts at ready.room

  run-ready : RunReady ((3 + i) * 64) row w
  run-ready = record {
    room = room-for-first coefficients rhs start room;
    keys = omega (arith, part-long A.coefficients (n * i) n inside, ready.narrow, ready.few);
  }

  rhs-room : {v : EntryWriter} → Put coefficients w v → EntriesRoom (length rhs) v
  rhs-room first = room-for-second coefficients rhs start room first

  start-room : {v u : EntryWriter} → Put coefficients w v → Put rhs v u → EntriesRoom (length start) u
  start-room first second = room-for-third coefficients rhs start room first second

  all : {v u t : EntryWriter} → Put coefficients w v → Put rhs v u → Put start u t → Put (limit_of z A i) w t
  all first second third = rw parts (put-three coefficients rhs start room first second third)

pub put_run-requires : goal.put_run-requires
put_run-requires c = run-ready (rw (← c.arrays.view_is) at c.requires.ready) c.requires.limit

pub put_figure-requires : goal.put_figure-requires
put_figure-requires c =
    let fits : SFits w32 (at c.arrays.inside.right_hand_sides.now c.args.i) = search rules in
    rw (to_z-of_z fits)
    (rhs-room (rw (← c.arrays.view_is) at c.requires.ready) c.requires.limit c.put_run.ensures)

pub put_figure-requires-2 : goal.put_figure-requires-2
put_figure-requires-2 c =
    let rhs_fits : SFits w32 (at c.arrays.inside.right_hand_sides.now c.args.i) = search rules in
    let fits : SFits w32 (at c.arrays.inside.starts.now c.args.i) = search rules in
    rw (to_z-of_z fits)
    (start-room (rw (← c.arrays.view_is) at c.requires.ready) c.requires.limit c.put_run.ensures
    (rw (to_z-of_z rhs_fits) at c.put_figure.ensures))

pub returns : goal.returns
returns c =
    let rhs_fits : SFits w32 (at c.arrays.inside.right_hand_sides.now c.args.i) = search rules in
    let fits : SFits w32 (at c.arrays.inside.starts.now c.args.i) = search rules in
    rw (← c.arrays.view_is)
    (all (rw (← c.arrays.view_is) at c.requires.ready) c.requires.limit c.put_run.ensures
    (rw (to_z-of_z rhs_fits) at c.put_figure.ensures) (rw (to_z-of_z fits) at c.put_figure-2.ensures))
