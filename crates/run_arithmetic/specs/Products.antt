-- What adding a product asks: the product fits its width, and so does the sum with it.
use Rattle.std.specs.Prelude.{ℤ, ◌+ℤ◌, ◌*ℤ◌}
use Rattle.std.specs.Int.{Width}
use Rattle.std.proofs.Common.{SFits}

pub record ProductFits (w : Width) (sum x y : ℤ) : Type 0 where
  pub product : SFits w (x *ℤ y)
  pub total : SFits w (sum +ℤ x *ℤ y)
