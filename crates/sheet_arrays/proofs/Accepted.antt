-- The length of the sheet of arrays that are not refused.
use Rattle.std.specs.Prelude.{◌≡◌, ◌+◌, ◌*◌, length}
use Rattle.std.proofs.Math.Option.{none}
use Rattle.rules.specs.declared.Sizes.{Sizes}
use Rattle.rules_arrays.specs.Arrays.{Arrays, sheet_from, arrays_refusal}
use Rattle.rules_arrays.specs.ReadBack.{figures_present}
use Rattle.sheet_arrays.proofs.Laid.{sheet-length}
use Rattle.sheet_arrays.specs.Accepted.{lengths-in, shape-in}

module _ (z : Sizes) (A : Arrays) (accepted : arrays_refusal z A ≡ none) where
  -- T13.10
  pub wanted-is : length (sheet_from z A) ≡ 12 + 6 * figures_present A
  wanted-is = sheet-length z A (shape-in z A accepted).narrow (shape-in z A accepted).few (lengths-in z A accepted)
