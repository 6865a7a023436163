-- An unsigned number that was written is read back, whatever its width; and parts that follow each other.
use Rattle.std.specs.Prelude.{◌≡◌, ℕ, zero, suc, ◌+◌, ◌*◌, ◌/◌, ◌%◌, ◌^◌, ◌<◌, length, drop}
use Rattle.std.proofs.Common.{sym, ap, ◌∙◌, arith, drop-drop, drop_at}
use mathlib.Core.List.{List, ◌∷◌, ◌++◌, flatten}
use Rattle.std.proofs.Math.Nat.{pow-succ'}
use Rattle.rules.specs.Bytes.{unsigned_at, unsigned_bytes}
use Rattle.bytes_read.specs.Width.{unsigned-start}

-- ---- at the start of some bytes
-- an unsigned number of w bytes
pub unsigned_back : (w v : ℕ) (rest : List ℕ) → v < 256 ^ w → unsigned_at w (unsigned_bytes w v ++ rest) 0 ≡ v
unfolding unsigned_at unsigned_bytes
unsigned_back zero v rest h = omega arith
unsigned_back (suc w) v rest h =
    let small : v < 256 * 256 ^ w = rw pow-succ' at h in
    let upper : v / 256 < 256 ^ w = omega arith in
    rw (unsigned-start w (v % 256 ∷ (unsigned_bytes w (v / 256) ++ rest)) 1, unsigned_back w (v / 256) rest upper)
    (omega arith)

-- ---- further on
-- from place a on, r is some parts, one after the other
pub record From (r : List ℕ) (a : ℕ) (parts : List (List ℕ)) : Type 0 where
  pub is : drop a r ≡ flatten parts

-- past the first part are the others
pub after : {r bytes : List ℕ} {a w : ℕ} {parts : List (List ℕ)}
    → From r a (bytes ∷ parts) → length bytes ≡ w → From r (a + w) parts
unfolding flatten
after {r} {bytes} {a} {w} {parts} f l =
    record { is = sym (drop-drop w a r) ∙ ap (drop w) f.is ∙ drop_at bytes (flatten parts) w l }
