-- TASK.md, T2.1: numbers of w bytes, the lowest first, read and written. Signed ones are in two's complement.
use Rattle.std.specs.Prelude.{ℕ, zero, suc, ◌+◌, ◌-◌, ◌*◌, ◌/◌, ◌%◌, ◌^◌, cond, List, [], ◌∷◌, ◌++◌, get_or, ℤ, pos}
use Rattle.std.specs.Prelude.{negsuc, ◌-ℤ◌, ltb}

-- the unsigned number in the w bytes of s from place o on
unfoldable pub unsigned_at : ℕ → List ℕ → ℕ → ℕ
unsigned_at zero s o = 0
unsigned_at (suc w) s o = get_or s o 0 + 256 * unsigned_at w s (o + 1)

-- w bytes that are v as an unsigned number, as a signed one: from half of 256^w on, 256^w less
unfoldable pub signed_of : ℕ → ℕ → ℤ
signed_of w v = cond (ltb v (256 ^ w / 2)) (pos v) (pos v -ℤ pos (256 ^ w))

-- the signed number in the w bytes of s from place o on
unfoldable pub signed_at : ℕ → List ℕ → ℕ → ℤ
signed_at w s o = signed_of w (unsigned_at w s o)

-- an unsigned number in w bytes
unfoldable pub unsigned_bytes : ℕ → ℕ → List ℕ
unsigned_bytes zero v = []
unsigned_bytes (suc w) v = v % 256 ∷ unsigned_bytes w (v / 256)

-- a signed number in w bytes; `negsuc v` is −(v + 1)
unfoldable pub signed_bytes : ℕ → ℤ → List ℕ
signed_bytes w (pos v) = unsigned_bytes w v
signed_bytes w (negsuc v) = unsigned_bytes w (256 ^ w - suc v)

-- numbers one after the other, each in its bytes
unfoldable pub laid : {A : Type 0} → (A → List ℕ) → List A → List ℕ
laid bytes [] = []
laid bytes (x ∷ xs) = bytes x ++ laid bytes xs
