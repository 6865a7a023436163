-- The rows of the first i limits are put.
use Rattle.std.proofs.Common.{◌≡◌, ◌+◌, length}
use Rattle.rules.specs.Sheet.{key_of}
use Rattle.sheet_table.specs.Tabled.{table_in}
use Rattle.sheet_figures.specs.Put.{put_rows}
use Rattle.sheet_unpack.proofs.take_rows.Given as goal

abbrev pub invariant-loop-i : goal.invariant-loop-i
invariant-loop-i l = record {
  long : length l.to ≡ 512;
  rows : l.to ≡ put_rows l.initial.to l.i l.n (λ i j. table_in l.table (key_of (3 + i) j));
}
