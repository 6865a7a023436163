-- A signed number that was written is read back, and so are numbers and figures that follow each other.
use Rattle.std.specs.Prelude.{◌≡◌, refl, ℕ, suc, ◌+◌, ◌-◌, ◌*◌, ◌/◌, ◌^◌, ◌<◌, ℤ, pos, negsuc, length}
use Rattle.std.proofs.Common.{ap, ◌∙◌, suc-le-suc, mul-suc, mul-zero, arith}
use mathlib.Core.List.{List, [], ◌∷◌, ◌++◌, append_assoc, flatten}
use Rattle.std.specs.Int.Signed.{mag}
use Rattle.rules.specs.Notation.{tabulate, at}
use Rattle.rules.specs.Bytes.{unsigned_at, signed_at, unsigned_bytes, signed_bytes, laid}
use Rattle.rules.specs.Record.{fields}
use Rattle.bytes_read.specs.Width.{unsigned-start, signed_lower, signed-upper}
use Rattle.bytes_write.specs.Number.{length-signed}
use Rattle.bytes_write.specs.ReadBack.{unsigned_back, From, after}

-- a signed number of w bytes; `mag z` is n for n and for −(n + 1)
pub signed_back : (w : ℕ) (z : ℤ) (rest : List ℕ) → mag z < 256 ^ w / 2 → signed_at w (signed_bytes w z ++ rest) 0 ≡ z
unfolding signed_at signed_bytes
signed_back w (pos v) rest h = rw (unsigned_back w v rest (omega arith)) (signed_lower w v h)
signed_back w (negsuc v) rest h =
    rw (unsigned_back w (256 ^ w - suc v) rest (omega arith))
    (signed-upper w (256 ^ w - suc v) (omega arith) (omega arith) ∙ ap negsuc (omega arith))

-- a number at place a is read from there
module _ {r : List ℕ} {a : ℕ} {parts : List (List ℕ)} (w : ℕ) where
  pub unsigned-read : (v : ℕ) → From r a (unsigned_bytes w v ∷ parts) → v < 256 ^ w → unsigned_at w r a ≡ v
  unfolding flatten
  unsigned-read v f h = rw (unsigned-start w r a, f.is) (unsigned_back w v (flatten parts) h)

  pub signed-read : (z : ℤ) → From r a (signed_bytes w z ∷ parts) → mag z < 256 ^ w / 2 → signed_at w r a ≡ z
  unfolding signed_at flatten
  signed-read z f h = rw (unsigned-start w r a, f.is) (signed_back w z (flatten parts) h)

-- all of the figures at place a, of w bytes each, are read ..
figures-from : {r : List ℕ} {a : ℕ} {parts : List (List ℕ)} (w : ℕ) (zs : List ℤ) → From r a (fields w zs ∷ parts)
    → ((i : ℕ) → i < length zs → mag (at zs i) < 256 ^ w / 2)
    → tabulate (length zs) (λ i. signed_at w r (a + w * i)) ≡ zs
unfolding flatten tabulate laid
figures-from w [] f h = refl
figures-from {r} {a} {parts} w (z ∷ zs) f h =
    let first : From r a (signed_bytes w z ∷ fields w zs ∷ parts) =
    record { is = f.is ∙ append_assoc (signed_bytes w z) (fields w zs) (flatten parts) } in
    let here : a + w * 0 ≡ a = rw mul-zero (omega arith) in
    let next : (i : ℕ) → a + w * suc i ≡ a + w + w * i = λ i. rw mul-suc (omega arith) in
    rw (here, signed-read w z first (h 0 (omega arith)))
    (ap (λ (t : List ℤ). z ∷ t)
    ((λ k. tabulate (length zs) (λ i. signed_at w r (next i k)))
    ∙ figures-from {a = a + w} w zs (after first (length-signed w z)) (λ i l. h (suc i) (suc-le-suc l))))

-- .. by their number
pub figures-read : {r : List ℕ} {a n : ℕ} {parts : List (List ℕ)} (w : ℕ) (zs : List ℤ)
    → From r a (fields w zs ∷ parts) → length zs ≡ n
    → ((i : ℕ) → i < n → mag (at zs i) < 256 ^ w / 2) → tabulate n (λ i. signed_at w r (a + w * i)) ≡ zs
figures-read w zs f l h = rw (← l) (figures-from w zs f (rw l h))
