-- Each turn puts the entry of one figure more.
use Rattle.std.proofs.Common.{rules, List, ◌++◌, ℕ, suc, ◌+◌, ◌<◌, ℤ, length, add-one, w32, to_z-of_z}
use mir.Val.{SFits}
use Rattle.rules.specs.Notation.{at}
use Rattle.sheet_arrays.specs.Runs.{entry, run, run-grows}
use Rattle.sheet_put.specs.declared.EntryWriter.{EntryWriter}
use Rattle.sheet_put.specs.Put.{Put, EntriesRoom, put-none, room-less, room_next, put-more}
use Rattle.sheet_rows.specs.Ready.{RunReady}
use Rattle.sheet_rows.proofs.put_run.Goals as goal

-- ---- figure j, where there is room for all
module _ {first : ℕ} {figures : List ℤ} {w v : EntryWriter} {j : ℕ} (ready : RunReady first figures w)
    (before : Put (run first j (at figures)) w v) (l : j < length figures) where
  with_it : EntriesRoom (length (run first j (at figures) ++ entry (first + j) (at figures j))) w
  unfolding run
  with_it = room-less _ ready.room (run-grows first {j = suc j} (at figures) l)

  figure-room : EntriesRoom (length (entry (first + j) (at figures j))) v
  figure-room = room_next (run first j (at figures)) (entry (first + j) (at figures j)) with_it before

  one_more : {u : EntryWriter} → Put (entry (first + j) (at figures j)) v u → Put (run first (j + 1) (at figures)) w u
  unfolding run
  one_more here =
      rw add-one (put-more (run first j (at figures)) (entry (first + j) (at figures j)) with_it before here)

pub loop-j-init : goal.loop-j-init
unfolding run
loop-j-init c = put-none _

pub put_figure-requires : goal.put_figure-requires
put_figure-requires c =
    let fits : SFits w32 (at c.args.figures.now c.loop-j.j) = search rules in
    rw (to_z-of_z fits) (figure-room c.requires c.loop-j.invariant c.loop-j-test.true)

pub loop-j-preserved : goal.loop-j-preserved
loop-j-preserved c =
    let fits : SFits w32 (at c.args.figures.now c.loop-j.j) = search rules in
    one_more c.requires c.loop-j.invariant c.loop-j-test.true (rw (to_z-of_z fits) at c.put_figure.ensures)
