-- A look in arrays.
use Rattle.std.specs.Prelude.{◌≡◌, List, ℤ}
use Rattle.rules.specs.Step.{Look}
use Rattle.sheet_figures.specs.Padded.{padded}

-- a look in arrays of 32 and 16 places, where the places past n and m hold 0, and its dual value
pub record LookIn (q : Look) (amounts residuals : List ℤ) (value : ℤ) : Type 0 where
  pub amounts-are : amounts ≡ padded 32 q.amounts
  pub residuals-are : residuals ≡ padded 16 q.residuals
  pub value-is : value ≡ q.dual_value
