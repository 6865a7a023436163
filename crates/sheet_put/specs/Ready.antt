-- What putting entries asks.
use Rattle.std.specs.Prelude.{ℕ, ℤ, length}
use Rattle.sheet_arrays.specs.Runs.{entry}
use Rattle.sheet_put.specs.declared.EntryWriter.{EntryWriter}
use Rattle.sheet_put.specs.Put.{EntriesRoom}

-- there is room for the entry of a figure
abbrev pub FigureReady : ℕ → ℤ → EntryWriter → Type 0
FigureReady key figure w = EntriesRoom (length (entry key figure)) w
