-- Sizes and figures that fit a sheet, and bytes that are read as a table.
use Rattle.std.specs.Prelude.{◌≡◌, false, List, ℕ, ◌<◌, length}
use mir.Syntax.{w32}
use mir.Val.{SFits}
use Rattle.rules.specs.declared.Sizes.{Sizes}
use Rattle.rules.specs.Sheet.{sheet_of, Table}
use Rattle.rules.specs.Sheet.{table_of}
use Rattle.rules.specs.Encoder.{all_keys, keys_of}
use Rattle.rules.specs.Refusals.{not_above}
use Rattle.sheet_written.specs.Listed.{Listed}

-- each size fits its two bytes
pub record SizesFit (z : Sizes) : Type 0 where
  pub materials : z.shape.materials < 65536
  pub limits : z.shape.limits < 65536
  pub numerator : z.numerator < 65536
  pub scale : z.scale < 65536
  pub steps : z.steps < 65536

-- and each figure its four
pub record Fit (z : Sizes) (T : Table) : Type 0 where
  pub sizes : SizesFit z
  pub values : (q : ℕ) → q < all_keys → SFits w32 (T q)

-- bytes are read as sizes and a table
pub record ReadsTable (z : Sizes) (T : Table) (r : List ℕ) : Type 0 where
  pub sizes : (sheet_of r).sizes ≡ z
  pub entries : (sheet_of r).entries ≡ length (keys_of T)
  -- entry i has key i of the table, and the figure there
  pub listed : Listed (sheet_of r) T (keys_of T)
  -- each key has its figure
  pub values : (q : ℕ) → q < all_keys → table_of (sheet_of r) q ≡ T q
  -- each key is above the one before
  pub rising : (i : ℕ) → i < (sheet_of r).entries → not_above (sheet_of r) i ≡ false
