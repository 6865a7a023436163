-- A number of w bytes: what writing it asks, and how many bytes it has.
use Rattle.std.specs.Prelude.{◌≡◌, refl, List, [], ◌∷◌, ℕ, zero, suc, ◌+◌, ◌-◌, ◌*◌, ◌/◌, ◌^◌, ◌≤◌, ◌<◌, ℤ, pos, negsuc}
use Rattle.std.specs.Prelude.{length}
use Rattle.std.proofs.Common.{sym, ap, mul-zero, mul-suc, arith, length-append}
use Rattle.std.specs.Int.Signed.{mag}
use Rattle.rules.specs.Bytes.{unsigned_bytes, signed_bytes, laid}
use Rattle.rules.specs.Record.{fields}

-- an unsigned number asks for room
pub record Room (at w : ℕ) (d : List ℕ) : Type 0 where
  pub room : at + w ≤ length d

-- A signed number asks for room, and that it is one of w bytes in two's complement.
-- `mag v` is n for n and for −(n + 1).
pub record SignedRoom (at w : ℕ) (v : ℤ) (d : List ℕ) : Type 0 where
  pub room : at + w ≤ length d
  pub narrow : w ≤ 8
  pub small : mag v < 256 ^ w / 2

-- a number of w bytes has w bytes
pub length-unsigned : (w v : ℕ) → length (unsigned_bytes w v) ≡ w
unfolding unsigned_bytes
length-unsigned zero v = refl
length-unsigned (suc w) v = ap suc (length-unsigned w (v / 256))

pub length-signed : (w : ℕ) (v : ℤ) → length (signed_bytes w v) ≡ w
unfolding signed_bytes
length-signed w (pos v) = length-unsigned w v
length-signed w (negsuc v) = length-unsigned w (256 ^ w - suc v)

-- figures of w bytes each
pub length_fields : (w : ℕ) (zs : List ℤ) → length (fields w zs) ≡ w * length zs
unfolding laid
length_fields w [] = sym (mul-zero w)
length_fields w (z ∷ zs) = rw (length-append, length-signed, length_fields w zs, mul-suc) (omega arith)
