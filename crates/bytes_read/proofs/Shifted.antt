-- A shift up by the bits that w bytes leave of 64 takes each half of the numbers of w bytes to that half of those of 64
-- bits, and the shift down takes it back.
use Rattle.std.proofs.Common.{ℕ, zero, suc, ◌+◌, ◌-◌, ◌*◌, ◌/◌, ◌%◌, ◌^◌, ◌<◌, ◌≤◌, ◌≡◌, refl, ap, sym, ◌∙◌, arith}
use Rattle.std.proofs.Common.{ℤ, pos, negsuc, w64, SFits, to_z, of_z, inl, inr}
use Rattle.std.proofs.Math.Nat.{mul-div_cancel, mul-le-mul_right, add-mul, suc-mul, mul-suc, pow-suc, mod-eq_of_lt}
use Rattle.std.proofs.lemmas.Nat.{div-mul-add, pow_pos}
use Rattle.std.proofs.lemmas.Bool.{cases_lt}
use Rattle.std.specs.Int.Signed.{shr_z, mag_shr}
use lib.Pow.{pow-add}
use mir.Facts.{to_z-of_z, to_z_pos, to_z-neg}
use Rattle.rules.specs.Bytes.{signed_of}
use Rattle.bytes_read.specs.Inside.{Width, InWidth}
use Rattle.bytes_read.specs.Width.{halved, signed_lower, signed-upper}

-- what the shift up multiplies by
abbrev shift : ℕ → ℕ
shift w = 2 ^ (64 - 8 * w)

-- 256^w in powers of 2
in-bits : (w : ℕ) → 256 ^ w ≡ 2 ^ (8 * w)
in-bits zero = refl
in-bits (suc w) = rw (mul-suc, pow-add 2 (8 * w) 8, ← in-bits w) (pow-suc 256 w)

record Shifted (w : ℕ) : Type 0 where
  pub some : 0 < shift w
  pub whole : 256 ^ w * shift w ≡ 2 ^ 64
  pub half : 256 ^ w / 2 * shift w ≡ 2 ^ 63

shifted : (w : ℕ) → Width w → Shifted w
shifted w width =
    let h = halved w width in
    let bits : 8 * w + (64 - 8 * w) ≡ 64 = omega (arith, width.narrow) in
    let whole : 256 ^ w * shift w ≡ 2 ^ 64 = rw (in-bits w, ← pow-add 2 (8 * w) (64 - 8 * w), bits) in
    let twice : 256 ^ w / 2 * shift w + 256 ^ w / 2 * shift w ≡ 2 ^ 64 =
    sym (add-mul (256 ^ w / 2) (256 ^ w / 2) (shift w)) ∙ ap (λ (n : ℕ). n * shift w) h.twice ∙ whole in
    record { some = pow_pos (64 - 8 * w); whole = whole; half = omega arith }

module _ (w v : ℕ) (asked : InWidth w v) where
  lower : v < 256 ^ w / 2 → shr_z (to_z w64 (v * shift w)) (shift w) ≡ signed_of w v
  lower l =
      let p = shifted w asked.width in
      let below : suc v * shift w ≤ 256 ^ w / 2 * shift w = mul-le-mul_right (shift w) l in
      let next = suc-mul v (shift w) in
      let small : v * shift w < 2 ^ 63 = omega (arith, p.some, p.half) in
      rw (to_z_pos w64 small, signed_lower w v l) (ap pos (mul-div_cancel v p.some))

  upper : 256 ^ w / 2 ≤ v → shr_z (to_z w64 (v * shift w)) (shift w) ≡ signed_of w v
  upper l =
      let p = shifted w asked.width in
      let k = 256 ^ w - suc v in
      let low = shift w - 1 in
      let above : 256 ^ w / 2 * shift w ≤ v * shift w = mul-le-mul_right (shift w) l in
      let all : suc k * shift w + v * shift w ≡ 256 ^ w * shift w =
      sym (add-mul (suc k) v (shift w)) ∙ ap (λ (n : ℕ). n * shift w) (omega (arith, asked.small)) in
      let next = suc-mul k (shift w) in
      let is : v * shift w ≡ 2 ^ 64 - suc (k * shift w + low) = omega (arith, p.some, p.whole) in
      let fits : k * shift w + low < 2 ^ 63 = omega (arith, p.some, p.whole, p.half) in
      rw (is, to_z-neg w64 (k * shift w + low) fits, signed-upper w v l asked.small)
      (ap negsuc (div-mul-add k (shift w) low (omega (arith, p.some))))

  back : shr_z (to_z w64 (v * shift w % 2 ^ 64)) (shift w) ≡ signed_of w v
  back =
      let p = shifted w asked.width in
      let below : suc v * shift w ≤ 256 ^ w * shift w = mul-le-mul_right (shift w) asked.small in
      let next = suc-mul v (shift w) in
      let kept : v * shift w % 2 ^ 64 ≡ v * shift w = mod-eq_of_lt (omega (arith, p.some, p.whole)) in
      rw kept (elim (cases_lt v (256 ^ w / 2)) [ inl l ↦ lower l | inr l ↦ upper l ])

-- z is what the shift up gives, as a signed number
pub signed_shifted : (w v : ℕ) (z : ℤ) → InWidth w v → SFits w64 z → z ≡ to_z w64 (v * 2 ^ (64 - 8 * w) % 2 ^ 64)
    → to_z w64 (of_z w64 (shr_z (to_z w64 (of_z w64 z)) (2 ^ (64 - 8 * w)))) ≡ signed_of w v
signed_shifted w v z asked wide is =
    let fits : SFits w64 (shr_z z (shift w)) = record { sfits = omega (arith, mag_shr z (shift w), wide.sfits) } in
    rw (to_z-of_z wide, to_z-of_z fits) (ap (λ n. shr_z n (shift w)) is ∙ back w v asked)
