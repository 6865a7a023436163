-- A figure is put as it stands in the table.
use Rattle.std.proofs.Common.{refl, ◌+◌, rules, add-one, zero-add, ap, sym, ◌∙◌, set, SFits, w32}
use Rattle.std.proofs.lemmas.Int.{to_z-of_z}
use Rattle.rules.specs.Notation.{at}
use Rattle.sheet_table.specs.Tabled.{table_at}
use Rattle.sheet_figures.specs.Put.{put}
use Rattle.sheet_unpack.proofs.take_column.Goals as goal

pub loop-i-init : goal.loop-i-init
unfolding put
loop-i-init c = refl

pub loop-i-preserved : goal.loop-i-preserved
unfolding put
loop-i-preserved c =
    let table = c.args.table.now in
    let i = c.loop-i.i in
    let fits : SFits w32 (at table c.place_at.result) = search rules in
    let kept =
    to_z-of_z w32 _ fits ∙ ap (at table) c.place_at.ensures
    ∙ sym (table_at table (3 + i) c.requires.column-in) in
    rw (add-one, zero-add) (λ k. set (c.loop-i.invariant k) i (kept k))
