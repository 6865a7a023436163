-- How long a line is at most.
use Rattle.std.specs.Prelude.{List, [], ◌∷◌, ℕ, zero, suc, ◌+◌, ◌*◌, ◌<◌, ◌≤◌, ℤ, pos, length}
use Prim.Native.String.{String}
use Rattle.std.proofs.Math.Nat.{le_step}
use Rattle.std.proofs.Common.{lt-suc_self, mul-suc, arith, length-append, SFits}
use Rattle.std.specs.Int.{w64}
use Rattle.rules.specs.Refusals.{Numbered}
use Rattle.rules.specs.Listing.{text, decimal, spaced, line, lines, refusal_text}
use Rattle.out_numbers.specs.DecimalLength.{length-decimal}

-- every figure of a line is a number of 64 bits
unfoldable pub Every : List ℤ → Type 0
Every [] = Unit {0}
Every (z ∷ zs) = SFits w64 z × Every zs

-- numbers, each after one space
length-spaced : (zs : List ℤ) → Every zs → length (spaced zs) ≤ 21 * length zs
unfolding Every spaced text
length-spaced [] h = omega arith
length-spaced (z ∷ zs) h = simp length-append (omega (arith, length-decimal z h.0, length-spaced zs h.1))

-- a line
pub length-line : (word : String) (zs : List ℤ) → Every zs
    → length (line word zs) ≤ length (text word) + 21 * length zs + 1
unfolding line text
length-line word zs h = simp length-append (omega (arith, length-spaced zs h))

-- n lines of at most b bytes each
pub length-lines : (b n : ℕ) (f : ℕ → List ℕ) → ((i : ℕ) → i < n → length (f i) ≤ b) → length (lines n f) ≤ b * n
unfolding lines
length-lines b zero f h = omega arith
length-lines b (suc n) f h =
    rw (length-append, mul-suc)
    (omega (arith, length-lines b n f (λ i l. h i (le_step l)), h n (lt-suc_self n)))

-- the line of a refusal, where number and place have at most 20 digits
pub length-refusal-text : (r : Numbered)
    → length (decimal (pos r.number)) ≤ 20 → length (decimal (pos r.place)) ≤ 20
    → length (refusal_text r) ≤ 4096
unfolding refusal_text line spaced text
length-refusal-text r number place = simp length-append (omega (arith, number, place))
