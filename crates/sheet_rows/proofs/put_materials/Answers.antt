-- The costs, the least amounts and the most amounts, each after those before.
use Rattle.std.proofs.Common.{◌≡◌, refl, List, ◌++◌, ℕ, ℤ, length, arith}
use Rattle.rules.specs.Notation.{at}
use Rattle.rules.specs.declared.Shape.{Shape}
use Rattle.rules_arrays.specs.Arrays.{Arrays}
use Rattle.sheet_arrays.specs.Runs.{Entry, run}
use Rattle.sheet_arrays.specs.Listed.{material_entries}
use Rattle.sheet_put.specs.declared.EntryWriter.{EntryWriter}
use Rattle.sheet_put.specs.Put.{Put, EntriesRoom}
use Rattle.sheet_rows.specs.Ready.{materials_of, RunReady, EntriesReady}
use Rattle.sheet_rows.proofs.Parts.{room-for-first, room-for-second, room-for-third, put-three}
use Rattle.sheet_rows.proofs.put_materials.Goals as goal

-- the entries of all figures of a list
abbrev whole : ℕ → List ℤ → List Entry
whole first xs = run first (length xs) (at xs)

-- ---- the three parts of the entries
module _ {z : Shape} {A : Arrays} {w : EntryWriter} (ready : EntriesReady (materials_of z A) z A w) where
  abbrev costs : List Entry
  costs = whole 0 A.costs

  abbrev leasts : List Entry
  leasts = whole 64 A.least_amounts

  abbrev mosts : List Entry
  mosts = whole 128 A.most_amounts

  parts : materials_of z A ≡ costs ++ leasts ++ mosts
  unfolding material_entries
  parts = rw (ready.lengths.costs, ready.lengths.least_amounts, ready.lengths.most_amounts) refl

  room : EntriesRoom (length (costs ++ leasts ++ mosts)) w
  room = rw parts at ready.room

  costs-ready : RunReady 0 A.costs w
  costs-ready = record {
    room = room-for-first costs leasts mosts room;
    keys = omega (arith, ready.narrow, ready.lengths.costs);
  }

  leasts-ready : {v : EntryWriter} → Put costs w v → RunReady 64 A.least_amounts v
  leasts-ready first = record {
    room = room-for-second costs leasts mosts room first;
    keys = omega (arith, ready.narrow, ready.lengths.least_amounts);
  }

  mosts-ready : {v u : EntryWriter} → Put costs w v → Put leasts v u → RunReady 128 A.most_amounts u
  mosts-ready first second = record {
    room = room-for-third costs leasts mosts room first second;
    keys = omega (arith, ready.narrow, ready.lengths.most_amounts);
  }

  all : {v u t : EntryWriter} → Put costs w v → Put leasts v u → Put mosts u t → Put (materials_of z A) w t
  all first second third = rw parts (put-three costs leasts mosts room first second third)

pub put_run-requires : goal.put_run-requires
put_run-requires c = costs-ready (rw (← c.arrays.view_is) at c.requires)

pub put_run-requires-2 : goal.put_run-requires-2
put_run-requires-2 c = leasts-ready (rw (← c.arrays.view_is) at c.requires) c.put_run.ensures

pub put_run-requires-3 : goal.put_run-requires-3
put_run-requires-3 c = mosts-ready (rw (← c.arrays.view_is) at c.requires) c.put_run.ensures c.put_run-2.ensures

pub returns : goal.returns
returns c =
    rw (← c.arrays.view_is)
    (all (rw (← c.arrays.view_is) at c.requires) c.put_run.ensures c.put_run-2.ensures c.put_run-3.ensures)
