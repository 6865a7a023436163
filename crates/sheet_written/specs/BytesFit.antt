-- The sizes and the table of any bytes fit a sheet.
use Rattle.std.specs.Prelude.{List, ℕ, get_or}
use Rattle.std.specs.Int.{w8, w32}
use Rattle.std.proofs.Common.{Fits, SFits}
use Rattle.std.proofs.Math.Facts.{sfits_lit}
use Rattle.bytes_read.specs.Width.{unsigned-below, signed_below}
use Rattle.rules.specs.Bytes.{signed_at}
use Rattle.rules.specs.Sheet.{sheet_of, table_of}
use Rattle.sheet_written.specs.Under.{under_all}
use Rattle.sheet_written.specs.ReadBack.{SizesFit}

module _ (s : List ℕ) (bytes : (i : ℕ) → Fits w8 (get_or s i 0)) where
  -- the sizes of any bytes fit a sheet
  pub sizes-fit : SizesFit (sheet_of s).sizes
  sizes-fit = record {
    materials = unsigned-below s bytes 2 0;
    limits = unsigned-below s bytes 2 2;
    numerator = unsigned-below s bytes 2 6;
    scale = unsigned-below s bytes 2 8;
    steps = unsigned-below s bytes 2 10;
  }

  -- and so does their table
  pub table_fits : (q : ℕ) → SFits w32 (table_of (sheet_of s) q)
  unfolding signed_at
  table_fits q =
      under_all (sheet_of s) (SFits w32) (sfits_lit tt) (sheet_of s).entries
      (λ i m. record { sfits = signed_below 3 _ (unsigned-below s bytes 4 _) }) q
