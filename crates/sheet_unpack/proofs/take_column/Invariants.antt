-- The first i figures of the column are put, each as it stands in the table.
use Rattle.std.proofs.Common.{◌≡◌, ◌+◌}
use Rattle.rules.specs.Sheet.{key_of}
use Rattle.sheet_table.specs.Tabled.{table_in}
use Rattle.sheet_figures.specs.Put.{put}
use Rattle.sheet_unpack.proofs.take_column.Given as goal

abbrev pub invariant-loop-i : goal.invariant-loop-i
invariant-loop-i l = l.to ≡ put l.initial.to 0 l.i (λ i. table_in l.table (key_of (3 + i) l.column))
