-- The first j figures of the row are put, each as it stands in the table.
use Rattle.std.proofs.Common.{◌≡◌}
use Rattle.rules.specs.Sheet.{key_of}
use Rattle.sheet_table.specs.Tabled.{table_in}
use Rattle.sheet_figures.specs.Put.{put}
use Rattle.sheet_unpack.proofs.take_row.Given as goal

abbrev pub invariant-loop-j : goal.invariant-loop-j
invariant-loop-j l = l.to ≡ put l.initial.to 0 l.j (λ j. table_in l.table (key_of l.row j))
