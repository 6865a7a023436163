-- The row of one more limit is put after those before it.
use Rattle.std.proofs.Common.{refl, ℕ, ◌+◌, ◌*◌, arith, add-one, ap, ◌∙◌, length}
use Rattle.rules.specs.Sheet.{key_of}
use Rattle.sheet_table.specs.Tabled.{table_in}
use Rattle.sheet_figures.specs.Put.{put, put_rows, length-put}
use Rattle.sheet_unpack.proofs.Parts.{put-part}
use Rattle.sheet_unpack.proofs.take_rows.Goals as goal

pub loop-i-init : goal.loop-i-init
unfolding put_rows
loop-i-init c = record { long = c.told-to; rows = refl }

pub loop-i-preserved : goal.loop-i-preserved
unfolding put_rows
loop-i-preserved c =
    let i = c.loop-i.i in
    let n = c.args.n in
    let f = λ (j : ℕ). table_in c.args.table.now (key_of (3 + i) j) in
    let long = c.loop-i.invariant.long in
    let row = put-part (32 * i) n _ c.loop-i.to f (omega (arith, c.requires.few, c.requires.narrow, long)) (omega arith)
    c.take_row.ensures in
    record {
      long = ap length row ∙ length-put c.loop-i.to (32 * i) n f ∙ long;
      rows = rw add-one (row ∙ (λ k. put (c.loop-i.invariant.rows k) (32 * i) n f));
    }
