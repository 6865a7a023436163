-- The sizes of a record.
use Rattle.std.specs.Prelude.{ℕ, ◌≤◌}

-- at most as many materials and limits as a sheet may have
pub record RecordSizes (n m : ℕ) : Type 0 where
  pub materials : n ≤ 32
  pub limits : m ≤ 16
