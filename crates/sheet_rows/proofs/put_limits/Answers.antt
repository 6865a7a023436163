-- Each turn puts the entries of one limit more.
use Rattle.std.proofs.Common.{◌++◌, ℕ, ◌+◌, ◌<◌, length, add-one}
use Rattle.rules.specs.declared.Shape.{Shape}
use Rattle.rules_arrays.specs.Arrays.{Arrays}
use Rattle.sheet_arrays.specs.Listed.{limits_entries, limits-grow}
use Rattle.sheet_put.specs.declared.EntryWriter.{EntryWriter}
use Rattle.sheet_put.specs.Put.{Put, EntriesRoom, put-none, room-less, room_next, put-more}
use Rattle.sheet_rows.specs.Ready.{limit_of, limits_of, EntriesReady}
use Rattle.sheet_rows.proofs.Parts.{ready-for}
use Rattle.sheet_rows.proofs.put_limits.Goals as goal

-- ---- limit i, where there is room for all
module _ {z : Shape} {A : Arrays} {w v : EntryWriter} {i : ℕ} (ready : EntriesReady (limits_of z A z.limits) z A w)
    (before : Put (limits_of z A i) w v) (l : i < z.limits) where
  with_it : EntriesRoom (length (limits_of z A i ++ limit_of z A i)) w
  unfolding limits_entries
  with_it =
      room-less _ ready.room (limits-grow z.materials A.coefficients A.right_hand_sides A.starts z.limits l)

  limit-ready : EntriesReady (limit_of z A i) z A v
  limit-ready = ready-for ready (room_next (limits_of z A i) (limit_of z A i) with_it before)

  one_more : {u : EntryWriter} → Put (limit_of z A i) v u → Put (limits_of z A (i + 1)) w u
  unfolding limits_entries
  one_more here = rw add-one (put-more (limits_of z A i) (limit_of z A i) with_it before here)

pub loop-i-init : goal.loop-i-init
unfolding limits_entries
loop-i-init c = put-none _

pub put_limit-requires : goal.put_limit-requires
put_limit-requires c = record {
  ready = limit-ready c.requires c.loop-i.invariant c.loop-i-test.true;
  limit = c.loop-i-test.true;
}

pub loop-i-preserved : goal.loop-i-preserved
loop-i-preserved c = one_more c.requires c.loop-i.invariant c.loop-i-test.true c.put_limit.ensures
