-- The library's maximum of two is that of the rules, in either order.
use Rattle.std.proofs.Common.{◌≡◌, ℤ, ◌≤ℤ◌, arith}
use Rattle.std.specs.Int.{int_max}
use Rattle.std.proofs.lemmas.Int.{ints}
use Rattle.proof_integer.specs.Order.{max_cases}
use Rattle.rules.specs.Notation.{maxℤ}

module _ (x y : ℤ) where
  is-second : x ≤ℤ y → int_max x y ≡ y
  is-second h = grind (arith, ints)

  is-first : y ≤ℤ x → int_max x y ≡ x
  is-first h = grind (arith, ints)

  pub max-is : int_max x y ≡ maxℤ x y
  max-is = max_cases x y (λ m. int_max x y ≡ m) is-second is-first

  pub max-turned : int_max x y ≡ maxℤ y x
  max-turned = max_cases y x (λ m. int_max x y ≡ m) is-first is-second
