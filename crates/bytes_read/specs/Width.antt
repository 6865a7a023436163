-- Numbers of w bytes, whatever the width w.
use Prim.Native.Nat.{ℕ, zero, suc, ◌+◌, ◌-◌, ◌/◌, ◌^◌, ◌≤◌, ◌<◌}
use Rattle.std.specs.Prelude.{◌≡◌, refl, Bool, true, false, List, ltb, pos, negsuc, ◌-ℤ◌, get_or, drop}
use Rattle.std.proofs.Common.{ap, add_assoc, add-zero, get_or-drop, Fits, ltb-true, ltb-false, lt-ltb, le-ltb}
use Rattle.std.proofs.Math.Nat.{pow-succ', pow-le-pow_right, one-le-pow}
use native.Mathlib.Omega.{arith}
use Rattle.std.specs.Int.Signed.{mag}
use Rattle.std.specs.Int.{w8}
use Rattle.rules.specs.Bytes.{unsigned_at, signed_of}
use Rattle.bytes_read.specs.Inside.{Width}

-- the number from place a + o on is the one from place o on, once a bytes are dropped
unsigned-drop : (w : ℕ) (s : List ℕ) (a o : ℕ) → unsigned_at w s (a + o) ≡ unsigned_at w (drop a s) o
unfolding unsigned_at
unsigned-drop zero s a o = refl
unsigned-drop (suc w) s a o = rw (add_assoc, unsigned-drop w s a (o + 1), get_or-drop)

-- so the number from place a on is the one at the start of what follows a bytes
pub unsigned-start : (w : ℕ) (s : List ℕ) (a : ℕ) → unsigned_at w s a ≡ unsigned_at w (drop a s) 0
unsigned-start w s a = rw add-zero at (unsigned-drop w s a 0)

-- in the lower half a number stands for itself
pub signed_lower : (w v : ℕ) → v < 256 ^ w / 2 → signed_of w v ≡ pos v
unfolding signed_of
signed_lower w v h = rw (lt-ltb v (256 ^ w / 2) h)

-- a number less a larger one
less : (a b : ℕ) → a < b → pos a -ℤ pos b ≡ negsuc (b - suc a)
less a zero h = elim h [ ]
less a (suc b) h = rw (lt-ltb a (suc b)) (ap negsuc (omega arith))

-- in the upper half v stands for v − 256^w
pub signed-upper : (w v : ℕ) → 256 ^ w / 2 ≤ v → v < 256 ^ w → signed_of w v ≡ negsuc (256 ^ w - suc v)
unfolding signed_of
signed-upper w v h l = rw (le-ltb v (256 ^ w / 2) h, less v (256 ^ w) l)

-- a number in w bytes is below 256^w, where the bytes are below 256
module _ (s : List ℕ) (bytes : (i : ℕ) → Fits w8 (get_or s i 0)) where
  pub unsigned-below : (w o : ℕ) → unsigned_at w s o < 256 ^ w
  unfolding unsigned_at
  unsigned-below zero o = omega arith
  unsigned-below (suc w) o = rw (pow-succ' 256 w) (omega (arith, bytes o, unsigned-below w (o + 1)))

-- and for a signed number in one byte or more `mag`, which is n for n and for −(n + 1), is below half of that
pub signed_below : (w v : ℕ) → v < 256 ^ suc w → mag (signed_of (suc w) v) < 256 ^ suc w / 2
signed_below w v h = by (ltb v (256 ^ suc w / 2)) refl
  where
    by : (b : Bool) → ltb v (256 ^ suc w / 2) ≡ b → mag (signed_of (suc w) v) < 256 ^ suc w / 2
    by true t = let l = ltb-true v (256 ^ suc w / 2) t in rw (signed_lower (suc w) v l) l
    by false t =
        let l = ltb-false v (256 ^ suc w / 2) t in
        rw (signed-upper (suc w) v l h) (omega (arith, pow-succ' 256 w))

-- half of 256^w, of 1 to 8 bytes
pub record Halved (w : ℕ) : Type 0 where
  pub some : 0 < 256 ^ w / 2
  pub twice : 256 ^ w / 2 + 256 ^ w / 2 ≡ 256 ^ w
  pub bounded : 256 ^ w / 2 ≤ 9223372036854775808

pub halved : (w : ℕ) → Width w → Halved w
halved zero h = absurd (omega arith)
halved (suc w) h =
    let power = pow-le-pow_right {n = 256} (omega arith) {i = suc w} {j = 8} h.narrow in
    let positive = one-le-pow w 256 (omega arith) in
    record {
      some = omega (arith, pow-succ' 256 w);
      twice = omega (arith, pow-succ' 256 w);
      bounded = omega (arith, power);
    }
