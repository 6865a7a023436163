-- The entries of the materials, and then those of the limits.
use Rattle.std.proofs.Common.{◌++◌, length}
use Rattle.rules.specs.declared.Shape.{Shape}
use Rattle.rules_arrays.specs.Arrays.{Arrays}
use Rattle.sheet_arrays.specs.Listed.{entries_of}
use Rattle.sheet_put.specs.declared.EntryWriter.{EntryWriter}
use Rattle.sheet_put.specs.Put.{Put, EntriesRoom, room-first, room_next, put-more}
use Rattle.sheet_rows.specs.Ready.{materials_of, limits_of, EntriesReady}
use Rattle.sheet_rows.proofs.Parts.{ready-for}
use Rattle.sheet_rows.proofs.put_entries.Goals as goal

module _ {z : Shape} {A : Arrays} {w : EntryWriter} (ready : EntriesReady (entries_of z A) z A w) where
  room : EntriesRoom (length (materials_of z A ++ limits_of z A z.limits)) w
  unfolding entries_of
  room = ready.room

  materials-ready : EntriesReady (materials_of z A) z A w
  materials-ready = ready-for ready (room-first (materials_of z A) (limits_of z A z.limits) room)

  -- the entries of the materials are put
  module _ {v : EntryWriter} (first : Put (materials_of z A) w v) where
    limits-ready : EntriesReady (limits_of z A z.limits) z A v
    limits-ready = ready-for ready (room_next (materials_of z A) (limits_of z A z.limits) room first)

    all : {u : EntryWriter} → Put (limits_of z A z.limits) v u → Put (entries_of z A) w u
    unfolding entries_of
    all last = put-more (materials_of z A) (limits_of z A z.limits) room first last

pub put_materials-requires : goal.put_materials-requires
put_materials-requires c = materials-ready c.requires

pub put_limits-requires : goal.put_limits-requires
put_limits-requires c = limits-ready c.requires c.put_materials.ensures

pub returns : goal.returns
returns c = all c.requires c.put_materials.ensures c.put_limits.ensures
