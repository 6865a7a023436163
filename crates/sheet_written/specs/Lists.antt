-- Lists that grow at their end, lists that rise, and lists that are given place by place; nothing of a sheet.
use Rattle.std.specs.Prelude.{◌≡◌, refl, List, [], ◌∷◌, ◌++◌, map, ℕ, zero, suc, ◌<◌, length, get_or}
use Rattle.std.proofs.Common.{ap, ap₂, inl, inr, zero-le, suc-le-suc, eq-or-lt_of_le, le_of_suc-le-suc, arith}
use Rattle.std.proofs.Common.{length-append}
use Rattle.std.proofs.Math.ListN.{get_or-append}
use Rattle.std.proofs.Math.Seq.{get_or-append_seam}
use Rattle.rules.specs.Notation.{tabulate}

-- ---- one more at the end
-- what holds of each element, and of one more, holds of each with that one at the end
pub each_more : (Q : ℕ → Type 0) (xs : List ℕ) (x : ℕ) → ((i : ℕ) → i < length xs → Q (get_or xs i 0)) → Q x
    → (i : ℕ) → i < length (xs ++ (x ∷ [])) → Q (get_or (xs ++ (x ∷ [])) i 0)
each_more Q xs x before here i l =
    let k : i < suc (length xs) = omega (arith, length-append xs (x ∷ [])) in
    elim (eq-or-lt_of_le (le_of_suc-le-suc k)) [
      | inl e ↦ rw (e, get_or-append_seam xs x [] 0) here
      | inr m ↦ rw (get_or-append xs (x ∷ []) 0 i m) (before i m)
    ]

-- each element is below the next
unfoldable pub Rises : List ℕ → Type 0
Rises xs = (i : ℕ) → suc i < length xs → get_or xs i 0 < get_or xs (suc i) 0

-- a larger one at the end
pub rises-more : (xs : List ℕ) (x : ℕ) → Rises xs → ((i : ℕ) → i < length xs → get_or xs i 0 < x)
    → Rises (xs ++ (x ∷ []))
unfolding Rises
rises-more xs x before above i l =
    let k : suc i < suc (length xs) = omega (arith, length-append xs (x ∷ [])) in
    let j : i < length xs = omega arith in
    rw (get_or-append xs (x ∷ []) 0 i j)
    (elim (eq-or-lt_of_le (le_of_suc-le-suc k)) [
      | inl e ↦ rw (e, get_or-append_seam xs x [] 0) (above i j)
      | inr m ↦ rw (get_or-append xs (x ∷ []) 0 (suc i) m) (before i m)
    ])

-- ---- lists that are given place by place
-- one place more
pub tabulate-more : {A : Type 0} (n : ℕ) (f : ℕ → A) → tabulate (suc n) f ≡ tabulate n f ++ (f n ∷ [])
unfolding tabulate
tabulate-more zero f = refl
tabulate-more (suc n) f = ap (λ t. f 0 ∷ t) (tabulate-more n (λ i. f (suc i)))

-- a function of each element
pub map-tabulate : {A B : Type 0} (g : A → B) (n : ℕ) (f : ℕ → A) → map g (tabulate n f) ≡ tabulate n (λ i. g (f i))
unfolding tabulate
map-tabulate g zero f = refl
map-tabulate g (suc n) f = ap (λ t. g (f 0) ∷ t) (map-tabulate g n (λ i. f (suc i)))

-- functions that agree at each element
pub map-cong : {A : Type 0} (xs : List ℕ) (f g : ℕ → A)
    → ((i : ℕ) → i < length xs → f (get_or xs i 0) ≡ g (get_or xs i 0)) → map f xs ≡ map g xs
map-cong [] f g h = refl
map-cong (x ∷ xs) f g h = ap₂ ◌∷◌ (h 0 (suc-le-suc zero-le)) (map-cong xs f g (λ i l. h (suc i) (suc-le-suc l)))
