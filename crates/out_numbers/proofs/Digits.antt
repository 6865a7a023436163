-- The digits of a number from its last on, and how many there are.
use Prim.Native.Nat.{ℕ, zero, suc, ◌+◌, ◌/◌, ◌%◌, ◌^◌, ◌<◌, ◌≤◌}
use mathlib.Core.Path.{◌≡◌, refl}
use mathlib.Core.List.{List, [], ◌∷◌, ◌++◌}
use native.Mathlib.Nat.{pow-suc, one-le-pow, le-div_iff_mul-le}
use native.Mathlib.Numerals.{add-one}
use native.Mathlib.Omega.{arith}
use lib.ListN.{length, length-append}
use lib.IntN.{pos}
use Rattle.rules.specs.Listing.{text, digits, decimal}

-- the last i digits of v: those of its tenth, and then its last
unfoldable pub ending_digits : ℕ → ℕ → List ℕ
ending_digits zero v = []
ending_digits (suc i) v = ending_digits i (v / 10) ++ ((48 + v % 10) ∷ [])

pub length_last : (i v : ℕ) → length (ending_digits i v) ≡ i
unfolding ending_digits
length_last zero v = refl
length_last (suc i) v = simp (length-append, length_last i (v / 10), add-one)

-- as many as there are, they are the digits that the definition has
last_digits : (d v : ℕ) → ending_digits (length (digits d v)) v ≡ digits d v
unfolding ending_digits digits
last_digits zero v = refl
last_digits (suc d) zero = refl
last_digits (suc d) (suc v) = simp (length-append, add-one) (rw (last_digits d (suc v / 10)))

pub last-decimal : (v : ℕ) → ending_digits (length (decimal (pos v))) v ≡ decimal (pos v)
unfolding ending_digits decimal text
last-decimal zero = refl
last-decimal (suc v) = last_digits (suc v) (suc v)

-- for a proof that has no clause of `places`: every number has a digit
pub some-decimal : (v : ℕ) → 0 < length (decimal (pos v))
unfolding digits decimal text
some-decimal zero = omega arith
some-decimal (suc v) = simp length-append (omega arith)

-- a number from 10^r on has more than r digits
more-digits : (r d v : ℕ) → v ≤ d → 10 ^ r ≤ v → r < length (digits d v)
unfolding digits
more-digits r zero v s h = absurd (omega (arith, one-le-pow r 10 (omega arith)))
more-digits r (suc d) zero s h = absurd (omega (arith, one-le-pow r 10 (omega arith)))
more-digits zero (suc d) (suc v) s h = simp length-append (omega arith)
more-digits (suc r) (suc d) (suc v) s h =
    let more = more-digits r d (suc v / 10) (omega arith) ((le-div_iff_mul-le (omega arith)).1 (rw pow-suc at h)) in
    simp length-append (omega arith)

pub more-decimal : (r v : ℕ) → 10 ^ r ≤ v → r < length (decimal (pos v))
unfolding decimal
more-decimal r zero h = absurd (omega (arith, one-le-pow r 10 (omega arith)))
more-decimal r (suc v) h = more-digits r (suc v) (suc v) (omega arith) h
