-- A figure is put as it stands in the table: its place is that of its key, and it fits both widths.
use Rattle.std.proofs.Common.{◌≡◌, refl, ◌<◌, ℕ, ℤ, List, arith, rules, add-one, zero-add, ap}
use Rattle.std.proofs.Common.{sym, ◌∙◌, set, SFits, to_z, of_z, w32}
use Rattle.std.proofs.lemmas.Int.{to_z-of_z}
use mir.Syntax.{w16}
use Rattle.rules.specs.Notation.{at}
use Rattle.rules.specs.Sheet.{key_of}
use Rattle.sheet_table.specs.Tabled.{place_at, table_in, table_at}
use Rattle.sheet_figures.specs.Put.{put}
use Rattle.sheet_unpack.proofs.take_row.Goals as goal

-- it fits both widths
narrowed : (table : List ℤ) (row j p : ℕ) → p ≡ place_at row j → j < 34 → SFits w32 (at table p)
    → SFits w16 (table_in table (key_of row j))
    → SFits w16 (to_z w32 (of_z w32 (at table p)))
    × (to_z w16 (of_z w16 (to_z w32 (of_z w32 (at table p)))) ≡ table_in table (key_of row j))
narrowed table row j p e l wide fits =
    let is : at table p ≡ table_in table (key_of row j) = ap (at table) e ∙ sym (table_at table row l) in
    rw (to_z-of_z w32 (at table p) wide, is) (fits, to_z-of_z w16 (table_in table (key_of row j)) fits)

pub loop-j-init : goal.loop-j-init
unfolding put
loop-j-init c = refl

pub overflow_cast-place : goal.overflow_cast-place
overflow_cast-place c =
    let wide : SFits w32 (at c.args.table.now c.place_at.result) = search rules in
    let fits = c.requires.fits c.loop-j.j c.loop-j-test.true in
    (narrowed _ c.args.row _ _ c.place_at.ensures (omega (arith, c.requires.narrow)) wide fits).0

pub loop-j-preserved : goal.loop-j-preserved
unfolding put
loop-j-preserved c =
    let wide : SFits w32 (at c.args.table.now c.place_at.result) = search rules in
    let fits = c.requires.fits c.loop-j.j c.loop-j-test.true in
    let kept = (narrowed _ c.args.row _ _ c.place_at.ensures (omega (arith, c.requires.narrow)) wide fits).1 in
    rw (add-one, zero-add) (λ i. set (c.loop-j.invariant i) c.loop-j.j (kept i))
