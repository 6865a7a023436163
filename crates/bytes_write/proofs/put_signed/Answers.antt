-- A number of w bytes only says its rest by 256^w, and so in w bytes, w at most 8, 2^64 − s is 256^w − s.
use Rattle.std.proofs.Common.{ℕ, zero, suc, ◌+◌, ◌-◌, ◌*◌, ◌/◌, ◌^◌, ◌≤◌, ◌<◌, ◌≡◌, refl, ap, ◌∙◌, arith, ℤ, pos}
use Rattle.std.proofs.Common.{negsuc, mul-suc, of_z, w64}
use Rattle.std.proofs.Math.Nat.{pow-succ', mul_assoc, one-le-pow, add-mul-mod_self_left, add-mul-div_left}
use Rattle.std.specs.Int.Bits.{bit_and}
use Rattle.std.proofs.lemmas.Grind.{common_steps}
use lib.Pow.{pow-add}
use Rattle.std.specs.Int.Signed.{mag}
use mir.Facts.{to_z-of_z}
use Rattle.rules.specs.Bytes.{unsigned_bytes, signed_bytes}
use Rattle.bytes_write.specs.Written.{written_at}
use Rattle.bytes_write.proofs.put_signed.Goals as goal

-- what 256^w is added to v any number of times has the same w bytes
rest : (w v k : ℕ) → unsigned_bytes w (v + 256 ^ w * k) ≡ unsigned_bytes w v
unfolding unsigned_bytes
rest zero v k = refl
rest (suc w) v k =
    let e : 256 ^ suc w * k ≡ 256 * (256 ^ w * k) = rw (pow-succ' 256 w) (mul_assoc 256 (256 ^ w) k) in
    let low = add-mul-mod_self_left v 256 (256 ^ w * k) in
    let high = add-mul-div_left v (256 ^ w * k) {y = 256} (omega arith) in
    rw (e, low, high, rest w (v / 256) k)

-- 256^(w + e) is 256^w, and 256^w some times more
wider : (w e s : ℕ) → s ≤ 256 ^ w → unsigned_bytes w (256 ^ (w + e) - s) ≡ unsigned_bytes w (256 ^ w - s)
wider w e s h =
    let k = 256 ^ e - 1 in
    let positive : 1 ≤ 256 ^ e = one-le-pow e 256 (omega arith) in
    let p : 256 ^ (w + e) ≡ 256 ^ w * k + 256 ^ w =
    pow-add 256 w e ∙ ap (λ (x : ℕ). 256 ^ w * x) (omega arith) ∙ mul-suc (256 ^ w) k in
    let q : 256 ^ (w + e) - s ≡ 256 ^ w - s + 256 ^ w * k = omega arith in
    rw q (rest w (256 ^ w - s) k)

-- the 64 bits of v give its bytes
bytes : (w : ℕ) (v : ℤ) → w ≤ 8 → mag v < 256 ^ w → unsigned_bytes w (of_z w64 v) ≡ signed_bytes w v
unfolding signed_bytes
bytes w (pos v) l h = refl
bytes w (negsuc v) l h = let e : w + (8 - w) ≡ 8 = omega arith in rw e at (wider w (8 - w) (suc v) h)

pub returns : goal.returns
returns c =
    let args = c.args in
    let bits : c.cast_unsigned.result ≡ of_z w64 args.v =
    c.cast_unsigned.ensures ∙ ap (of_z w64) (to_z-of_z c.ranges.v) in
    -- a mask of all ones leaves them as they are
    let masked : bit_and c.cast_unsigned.result 18446744073709551615 ≡ of_z w64 args.v = grind (arith, common_steps) in
    let same = bytes args.width args.v c.requires.narrow (omega (arith, c.requires.small)) in
    c.put_unsigned.ensures
    ∙ ap (λ bs. written_at args.at bs args.d.now)
    (ap (unsigned_bytes args.width) (search (bits, masked)) ∙ same)
