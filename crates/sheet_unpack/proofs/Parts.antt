-- Figures put into a part of an array that was lent.
use Rattle.std.proofs.Common.{◌≡◌, refl, List, ◌++◌, ℕ, zero, suc, ◌+◌, ◌-◌, ◌≤◌, ℤ, length, take, drop, set}
use Rattle.std.proofs.Common.{sym, ap, ◌∙◌, arith, zero-add, length-take-le, length-drop, take-append-drop}
use Rattle.std.proofs.lemmas.List.{set-append_left, set-append_right}
use borrow.Rule.Slice.PartMut.{put_mid}
use Rattle.sheet_figures.specs.Put.{put, length-put}

-- a is before the part p, and r after it
inside : (a p r : List ℤ) (m : ℕ) (f : ℕ → ℤ) → m ≤ length p
    → put (a ++ (p ++ r)) (length a) m f ≡ a ++ (put p 0 m f ++ r)
unfolding put
inside a p r zero f h = refl
inside a p r (suc m) f h =
    let q = put p 0 m f in
    let long : length q ≡ length p = length-put p 0 m f in
    let place : length a + m - length a ≡ m = omega arith in
    ap (λ (xs : List ℤ). set xs (length a + m) (f m)) (inside a p r m f (omega arith))
    ∙ set-append_right a (q ++ r) (length a) (length a + m) (f m) refl (omega arith)
    ∙ rw (place, zero-add) (ap (λ (xs : List ℤ). a ++ xs) (set-append_left q r m (f m) (omega arith)))

-- the part from `from` on, of n places, was lent and came back with all its figures put
pub put-part : (from n k : ℕ) (xs : List ℤ) {part : List ℤ} (f : ℕ → ℤ) → from + n ≤ length xs → k ≡ n
    → part ≡ put (take k (drop from xs)) 0 (length (take k (drop from xs))) f → put_mid from k xs part ≡ put xs from n f
put-part from n k xs {part} f room e is =
    let p = take n (drop from xs) in
    let long : length p ≡ n = length-take-le n (drop from xs) (omega (arith, length-drop from xs)) in
    let front : length (take from xs) ≡ from = length-take-le from xs (omega arith) in
    let whole : take from xs ++ (p ++ drop n (drop from xs)) ≡ xs =
    ap (λ (rest : List ℤ). take from xs ++ rest) (take-append-drop n (drop from xs)) ∙ take-append-drop from xs in
    let put-in = inside (take from xs) p (drop n (drop from xs)) n f (omega arith) in
    rw (is, e, long) (sym (rw (whole, front) at put-in))

-- and so where it was the first n places
pub put-start : (n : ℕ) (xs : List ℤ) {part : List ℤ} (f : ℕ → ℤ) → n ≤ length xs
    → part ≡ put (take n xs) 0 (length (take n xs)) f → part ++ drop n xs ≡ put xs 0 n f
put-start n xs f room is = put-part 0 n n xs f (rw zero-add room) refl is
