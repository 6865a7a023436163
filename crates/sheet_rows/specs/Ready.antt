-- The entries of the rows of a sheet, and what putting them asks.
use Rattle.std.specs.Prelude.{List, ℕ, ◌+◌, ◌<◌, ◌≤◌, ℤ, length}
use Rattle.rules.specs.Notation.{at}
use Rattle.rules.specs.declared.Shape.{Shape}
use Rattle.rules_arrays.specs.Arrays.{Arrays}
use Rattle.sheet_arrays.specs.Lengths.{LengthsMatch}
use Rattle.sheet_arrays.specs.Runs.{Entry, run}
use Rattle.sheet_arrays.specs.Listed.{material_entries, limit_entries, limits_entries}
use Rattle.sheet_put.specs.declared.EntryWriter.{EntryWriter}
use Rattle.sheet_put.specs.Put.{EntriesRoom}

module _ (shape : Shape) (A : Arrays) where
  -- those of the materials
  abbrev pub materials_of : List Entry
  materials_of = material_entries shape.materials A.costs A.least_amounts A.most_amounts

  -- those of limit i
  abbrev pub limit_of : ℕ → List Entry
  limit_of i = limit_entries shape.materials A.coefficients A.right_hand_sides A.starts i

  -- those of the first limits
  abbrev pub limits_of : ℕ → List Entry
  limits_of count = limits_entries shape.materials A.coefficients A.right_hand_sides A.starts count

-- ---- there is room for the entries, and no key wraps
-- those of figures under consecutive keys
pub record RunReady (first : ℕ) (figures : List ℤ) (w : EntryWriter) : Type 0 where
  pub room : EntriesRoom (length (run first (length figures) (at figures))) w
  pub keys : first + length figures < 65536

-- some or all of those of arrays that have their figures
pub record EntriesReady (es : List Entry) (shape : Shape) (A : Arrays) (w : EntryWriter) : Type 0 where
  pub room : EntriesRoom (length es) w
  pub narrow : shape.materials ≤ 32
  pub few : shape.limits ≤ 16
  pub lengths : LengthsMatch shape A
