-- What putting the sections asks: that materials and limits have places in the arrays.
use Rattle.std.specs.Prelude.{ℕ, ◌<◌, ◌≤◌}

-- material j, and m limits
pub record ColumnInside (j m : ℕ) : Type 0 where
  pub narrow : j < 32
  pub few : m ≤ 16

-- n materials, and m limits
pub record SizesInside (n m : ℕ) : Type 0 where
  pub narrow : n ≤ 32
  pub few : m ≤ 16
