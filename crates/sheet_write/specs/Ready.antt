-- What writing a sheet asks, once its figures are tested.
use Rattle.std.specs.Prelude.{◌≡◌, List, ℕ, ◌+◌, ◌*◌, ◌≤◌, length}
use Rattle.rules.specs.declared.Sizes.{Sizes}
use Rattle.rules_arrays.specs.Arrays.{Arrays}
use Rattle.rules_arrays.specs.ReadBack.{figures_present}
use Rattle.sheet_arrays.specs.Lengths.{LengthsMatch}

-- at most 640 figures are not 0, so that no count wraps
pub record Short (A : Arrays) : Type 0 where
  pub short : figures_present A ≤ 640

-- e is how many are not 0, and the buffer takes the sheet
pub record SheetReady (e : ℕ) (z : Sizes) (A : Arrays) (d : List ℕ) : Type 0 where
  pub narrow : z.shape.materials ≤ 32
  pub few : z.shape.limits ≤ 16
  pub lengths : LengthsMatch z.shape A
  pub entries : e ≡ figures_present A
  pub short : e ≤ 640
  pub room : 12 + 6 * e ≤ length d
