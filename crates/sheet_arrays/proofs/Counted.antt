-- The entries of the arrays are as many as their figures that are not 0.
use Rattle.std.specs.Prelude.{◌≡◌, length}
use Rattle.std.proofs.Common.{length-append}
use native.Mathlib.Omega.{arith}
use Rattle.rules.specs.declared.Shape.{Shape}
use Rattle.rules_arrays.specs.Arrays.{Arrays}
use Rattle.rules_arrays.specs.ReadBack.{figures_present}
use Rattle.sheet_arrays.specs.Lengths.{LengthsMatch}
use Rattle.sheet_arrays.specs.Listed.{material_entries, entries_of}
use Rattle.sheet_arrays.specs.Counted.{run_length, limits-length, present-is}

module _ (shape : Shape) (A : Arrays) where
  pub entries-length : LengthsMatch shape A → length (entries_of shape A) ≡ figures_present A
  unfolding entries_of material_entries figures_present
  entries-length match =
      simp (length-append, run_length, limits-length shape A shape.limits) (omega (
        arith,
        present-is A.costs match.costs,
        present-is A.least_amounts match.least_amounts,
        present-is A.most_amounts match.most_amounts,
        present-is A.coefficients match.coefficients,
        present-is A.right_hand_sides match.right_hand_sides,
        present-is A.starts match.starts,
      ))
