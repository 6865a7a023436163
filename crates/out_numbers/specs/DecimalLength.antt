-- How long a number is in decimal.
use Rattle.std.specs.Prelude.{ℕ, zero, suc, ◌+◌, ◌/◌, ◌^◌, ◌<◌, ◌≤◌, length, ℤ, pos, negsuc, nat_abs}
use Rattle.std.proofs.Common.{pow-suc, div-lt_iff_lt-mul, arith, length-append, SFits}
use Rattle.std.specs.Int.{w64}
use Rattle.rules.specs.Listing.{text, digits, decimal}

-- a number below 10^r has at most r digits
length_digits : (r d v : ℕ) → v < 10 ^ r → length (digits d v) ≤ r
unfolding digits
length_digits r zero v h = omega arith
length_digits r (suc d) zero h = omega arith
length_digits zero (suc d) (suc v) h = absurd (omega arith)
length_digits (suc r) (suc d) (suc v) h =
    let shorter = length_digits r d (suc v / 10) ((div-lt_iff_lt-mul (omega arith)).1 (rw pow-suc at h)) in
    simp length-append (omega arith)

-- a number below 10^r is at most r bytes in decimal; 0 is one byte
pub length-decimal-below : (r v : ℕ) → 0 < r → v < 10 ^ r → length (decimal (pos v)) ≤ r
unfolding decimal text
length-decimal-below r zero s h = omega arith
length-decimal-below r (suc v) s h = length_digits r (suc v) (suc v) h

-- a number of 64 bits is at most 20 bytes in decimal
pub length-decimal-pos : (v : ℕ) → v < 2 ^ 64 → length (decimal (pos v)) ≤ 20
length-decimal-pos v h = length-decimal-below 20 v (omega arith) (omega arith)

-- a number of magnitude below 10^r is a sign and r digits at most
pub length-decimal-within : (r : ℕ) (z : ℤ) → nat_abs z < 10 ^ r → length (decimal z) ≤ r + 1
unfolding decimal text
length-decimal-within r (pos zero) h = omega arith
length-decimal-within r (pos (suc v)) h = let few = length_digits r (suc v) (suc v) h in omega arith
length-decimal-within r (negsuc v) h =
    let few = length_digits r (suc v) (suc v) h in
    simp length-append (omega arith)

-- and so a signed number of 64 bits is at most 20 bytes
pub length-decimal : (z : ℤ) → SFits w64 z → length (decimal z) ≤ 20
length-decimal (pos v) f = length-decimal-pos v (omega (arith, f.sfits))
length-decimal (negsuc v) f = length-decimal-within 19 (negsuc v) (omega (arith, f.sfits))
