-- Entries that are put part by part, where there is room for all.
use Rattle.std.proofs.Common.{List, ◌++◌, length}
use Rattle.rules.specs.declared.Shape.{Shape}
use Rattle.rules_arrays.specs.Arrays.{Arrays}
use Rattle.sheet_arrays.specs.Runs.{Entry}
use Rattle.sheet_put.specs.declared.EntryWriter.{EntryWriter}
use Rattle.sheet_put.specs.Put.{Put, EntriesRoom, room-first, room_next, put-more}
use Rattle.sheet_rows.specs.Ready.{EntriesReady}

-- arrays that are ready for some entries are ready for others that there is room for
pub ready-for : {es others : List Entry} {z : Shape} {A : Arrays} {w v : EntryWriter} → EntriesReady es z A w
    → EntriesRoom (length others) v → EntriesReady others z A v
ready-for ready room = record { room = room; narrow = ready.narrow; few = ready.few; lengths = ready.lengths }

-- ---- three parts, each after those before
module _ (xs ys zs : List Entry) {w : EntryWriter} (room : EntriesRoom (length (xs ++ ys ++ zs)) w) where
  room-both : EntriesRoom (length (xs ++ ys)) w
  room-both = room-first (xs ++ ys) zs room

  pub room-for-first : EntriesRoom (length xs) w
  room-for-first = room-first xs ys room-both

  -- the first are put
  module _ {v : EntryWriter} (first : Put xs w v) where
    pub room-for-second : EntriesRoom (length ys) v
    room-for-second = room_next xs ys room-both first

    -- and the second
    module _ {u : EntryWriter} (second : Put ys v u) where
      both : Put (xs ++ ys) w u
      both = put-more xs ys room-both first second

      pub room-for-third : EntriesRoom (length zs) u
      room-for-third = room_next (xs ++ ys) zs room both

      pub put-three : {t : EntryWriter} → Put zs u t → Put (xs ++ ys ++ zs) w t
      put-three third = put-more (xs ++ ys) zs room both third
