-- Notation that the definitions share: −n, the test for 0, the larger of two integers, finite sums, tests at some
-- place, and lists by their places.
use Rattle.std.specs.Prelude.{ℕ, zero, suc, Bool, false, cond, ◌||◌, List, [], ◌∷◌, get_or, ℤ, pos, nat_abs, neg_ℤ}
use Rattle.std.specs.Prelude.{◌+ℤ◌, eqb}
use Rattle.std.specs.Int.Signed.{le_z}

-- −n
abbrev pub neg : ℕ → ℤ
neg n = neg_ℤ (pos n)

-- is it 0?
unfoldable pub is_zero : ℤ → Bool
is_zero x = eqb (nat_abs x) 0

-- the larger of two
unfoldable pub maxℤ : ℤ → ℤ → ℤ
maxℤ x y = cond (le_z x y) y x

-- f 0 + .. + f (n − 1)
unfoldable pub sum_to : ℕ → (ℕ → ℤ) → ℤ
sum_to zero f = pos 0
sum_to (suc n) f = sum_to n f +ℤ f n

-- does a test hold at some place below n?
unfoldable pub any_below : ℕ → (ℕ → Bool) → Bool
any_below zero test = false
any_below (suc n) test = any_below n test || test n

-- the list of f 0 to f (n − 1)
unfoldable pub tabulate {ℓ} : {A : Type ℓ} → ℕ → (ℕ → A) → List A
tabulate zero f = []
tabulate (suc n) f = f 0 ∷ tabulate n (λ i. f (suc i))

-- what stands at place i of a list, and 0 past its end
abbrev pub at : List ℤ → ℕ → ℤ
at xs i = get_or xs i (pos 0)
