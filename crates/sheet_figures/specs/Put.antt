-- Figures put into an array, one after the other, from a place on.
use Rattle.std.specs.Prelude.{◌≡◌, refl, List, ℕ, zero, suc, ◌+◌, ◌*◌, ◌≤◌, ◌<◌, ℤ, length, set}
use Rattle.std.proofs.Common.{ap₂, ◌∙◌, inl, inr, eq-or-lt_of_le, le_of_suc-le-suc, not-suc-le-zero, lt-suc_self, arith}
use Rattle.std.proofs.Common.{length-set, get_or-set_same, get_or-set_other}
use Rattle.std.proofs.Math.Nat.{le_step}
use Rattle.rules.specs.Notation.{at}

-- f 0 to f (n − 1) at the places from `from` on; the other places stay
unfoldable pub put : List ℤ → ℕ → ℕ → (ℕ → ℤ) → List ℤ
put xs from zero f = xs
put xs from (suc n) f = set (put xs from n f) (from + n) (f n)

pub length-put : (xs : List ℤ) (from n : ℕ) (f : ℕ → ℤ) → length (put xs from n f) ≡ length xs
unfolding put
length-put xs from zero f = refl
length-put xs from (suc n) f = length-set (put xs from n f) _ _ ∙ length-put xs from n f

-- the places before and after stay
put_other : (xs : List ℤ) (from n : ℕ) (f : ℕ → ℤ) (x : ℕ) → ((j : ℕ) → j < n → x ≡ from + j → ⊥)
    → at (put xs from n f) x ≡ at xs x
unfolding put
put_other xs from zero f x h = refl
put_other xs from (suc n) f x h =
    get_or-set_other (put xs from n f) (from + n) x _ _ (h n (lt-suc_self n))
    ∙ put_other xs from n f x (λ j l. h j (le_step l))

-- and figure j stands j places on
pub put-here : (xs : List ℤ) (from n : ℕ) (f : ℕ → ℤ) → from + n ≤ length xs → (j : ℕ) → j < n
    → at (put xs from n f) (from + j) ≡ f j
unfolding put
put-here xs from zero f room j l = absurd (not-suc-le-zero l)
put-here xs from (suc n) f room j l = elim (eq-or-lt_of_le (le_of_suc-le-suc l)) [
  | inl e ↦ rw e (get_or-set_same (put xs from n f) (from + n) (f n) _ (rw length-put (omega arith)))
  | inr k ↦
      get_or-set_other (put xs from n f) (from + n) (from + j) (f n) _ (λ e. omega arith)
      ∙ put-here xs from n f (omega arith) j k
]

-- only the first n figures count
pub put-cong : (xs : List ℤ) (from n : ℕ) (f g : ℕ → ℤ) → ((j : ℕ) → j < n → f j ≡ g j)
    → put xs from n f ≡ put xs from n g
unfolding put
put-cong xs from zero f g h = refl
put-cong xs from (suc n) f g h =
    ap₂ (λ (ys : List ℤ) v. set ys (from + n) v) (put-cong xs from n f g (λ j l. h j (le_step l))) (h n (lt-suc_self n))

-- ---- m rows of n figures, each row 32 places on
unfoldable pub put_rows : List ℤ → ℕ → ℕ → (ℕ → ℕ → ℤ) → List ℤ
put_rows xs zero n f = xs
put_rows xs (suc m) n f = put (put_rows xs m n f) (32 * m) n (f m)

length-rows : (xs : List ℤ) (m n : ℕ) (f : ℕ → ℕ → ℤ) → length (put_rows xs m n f) ≡ length xs
unfolding put_rows
length-rows xs zero n f = refl
length-rows xs (suc m) n f = length-put (put_rows xs m n f) _ n (f m) ∙ length-rows xs m n f

-- figure j of row i stands j places on in it
pub rows-here : (xs : List ℤ) (m n : ℕ) (f : ℕ → ℕ → ℤ) → n ≤ 32 → 32 * m ≤ length xs → (i j : ℕ) → i < m → j < n
    → at (put_rows xs m n f) (32 * i + j) ≡ f i j
unfolding put_rows
rows-here xs zero n f narrow room i j l k = absurd (not-suc-le-zero l)
rows-here xs (suc m) n f narrow room i j l k = elim (eq-or-lt_of_le (le_of_suc-le-suc l)) [
  | inl e ↦ rw e (put-here (put_rows xs m n f) (32 * m) n (f m) (rw length-rows (omega arith)) j k)
  | inr b ↦
      put_other (put_rows xs m n f) (32 * m) n (f m) (32 * i + j) (λ c d e. omega arith)
      ∙ rows-here xs m n f narrow (omega arith) i j b k
]

-- only the first m rows of n figures count
pub rows-cong : (xs : List ℤ) (m n : ℕ) (f g : ℕ → ℕ → ℤ) → ((i j : ℕ) → i < m → j < n → f i j ≡ g i j)
    → put_rows xs m n f ≡ put_rows xs m n g
unfolding put_rows
rows-cong xs zero n f g h = refl
rows-cong xs (suc m) n f g h =
    (λ k. put (rows-cong xs m n f g (λ i j l. h i j (le_step l)) k) (32 * m) n (f m))
    ∙ put-cong (put_rows xs m n g) (32 * m) n (f m) (g m) (λ j l. h m j (lt-suc_self m) l)
