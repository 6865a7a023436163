-- Numbers laid one after the other: one more at the end, and where number i stands.
use Rattle.std.specs.Prelude.{◌≡◌, length, get_or, drop}
use Rattle.std.proofs.Common.{sym, ◌∙◌, le_of_suc-le-suc, not-suc-le-zero, arith}
use mathlib.Core.List.{List, [], ◌∷◌, ◌++◌, append_assoc, append-nil, flatten}
use Prim.Native.Nat.{ℕ, zero, suc, ◌+◌, ◌*◌, ◌<◌}
use Rattle.std.proofs.Math.Nat.{mul-suc, mul-zero}
use Rattle.bytes_write.specs.ReadBack.{From, after}
use Rattle.rules.specs.Bytes.{laid}

-- one more at the end
pub laid_more : {A : Type 0} (bytes : A → List ℕ) (xs : List A) (x : A)
    → laid bytes (xs ++ (x ∷ [])) ≡ laid bytes xs ++ bytes x
unfolding laid
laid_more bytes [] x = append-nil (bytes x)
laid_more bytes (y ∷ xs) x = rw (laid_more bytes xs x) (sym (append_assoc (bytes y) (laid bytes xs) (bytes x)))

-- number i of w bytes each stands w × i after the first
module _ {A : Type 0} (bytes : A → List ℕ) (w : ℕ) (wide : (x : A) → length (bytes x) ≡ w) where
  pub laid_from : {r : List ℕ} {a : ℕ} {parts : List (List ℕ)} (d : A) (xs : List A) (i : ℕ)
      → From r a (laid bytes xs ∷ parts) → i < length xs
      → From r (a + w * i) (bytes (get_or xs i d) ∷ laid bytes (drop (suc i) xs) ∷ parts)
  unfolding laid flatten
  laid_from d [] i f l = absurd (not-suc-le-zero l)
  laid_from {r} {a} {parts} d (x ∷ xs) zero f l =
      let here : a + w * 0 ≡ a = rw mul-zero (omega arith) in
      record { is = rw here (f.is ∙ append_assoc (bytes x) (laid bytes xs) (flatten parts)) }
  laid_from {r} {a} {parts} d (x ∷ xs) (suc i) f l =
      let first : From r a (bytes x ∷ laid bytes xs ∷ parts) =
      record { is = f.is ∙ append_assoc (bytes x) (laid bytes xs) (flatten parts) } in
      let next : a + w + w * i ≡ a + w * suc i = rw mul-suc (omega arith) in
      rw next at (laid_from {a = a + w} d xs i (after first (wide x)) (le_of_suc-le-suc l))
