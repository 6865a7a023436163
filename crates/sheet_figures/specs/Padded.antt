-- Lists in arrays that have more places: the places past the list hold 0, as reading past its end gives.
use Rattle.std.specs.Prelude.{◌≡◌, refl, Bool, true, false, List, ℕ, suc, ◌+◌, ◌≤◌, ◌<◌, ltb, ℤ, pos, length, set}
use Rattle.std.specs.Prelude.{replicate}
use Rattle.std.proofs.Math.Path.{sym}
use Rattle.std.proofs.Common.{ap, ◌∙◌, zero-le, le_refl, le_trans, add-one, arith, ltb-true, ltb-false, ext_get_or}
use Rattle.proof_integer.specs.Vector.{length-tabulate, at-tabulate}
use Rattle.rules.specs.Notation.{tabulate, at}
use Rattle.proof_integer.specs.Tabulated.{at-past, tabulate-zero, tabulate-set}

-- a list in an array of `room` places
unfoldable pub padded : ℕ → List ℤ → List ℤ
padded room xs = tabulate room (at xs)

pub length-padded : (room : ℕ) (xs : List ℤ) → length (padded room xs) ≡ room
unfolding padded
length-padded room xs = length-tabulate room (at xs)

-- ---- reading
-- the array reads as the list, at every place and past the end of both
pub at-padded : (room : ℕ) (xs : List ℤ) → length xs ≤ room → at (padded room xs) ≡ at xs
unfolding padded
at-padded room xs fits = λ k i. by i (ltb i room) refl k
  where
    by : (i : ℕ) (b : Bool) → ltb i room ≡ b → at (tabulate room (at xs)) i ≡ at xs i
    by i true l = at-tabulate room (at xs) i (ltb-true i room l)
    by i false l =
        let out : room ≤ i = ltb-false i room l in
        at-past (tabulate room (at xs)) i (rw length-tabulate out) ∙ sym (at-past xs i (le_trans fits out))

-- a list is the table of what it reads
pub tabulate-at : (n : ℕ) (xs : List ℤ) → length xs ≡ n → tabulate n (at xs) ≡ xs
tabulate-at n xs e =
    ext_get_or (pos 0) _ _ (length-tabulate n (at xs) ∙ sym e)
    (λ i l. at-tabulate n (at xs) i (rw length-tabulate at l))

-- a list of zeros in an array is an array of zeros
pub padded-zero : (room n : ℕ) → padded room (tabulate n (λ _. pos 0)) ≡ replicate room (pos 0)
unfolding padded
padded-zero room n = tabulate-zero room _ (λ i _. zero-at i (ltb i n) refl)
  where
    zero-at : (i : ℕ) (b : Bool) → ltb i n ≡ b → at (tabulate n (λ _. pos 0)) i ≡ pos 0
    zero-at i true l = at-tabulate n (λ _. pos 0) i (ltb-true i n l)
    zero-at i false l = at-past (tabulate n (λ _. pos 0)) i (rw length-tabulate (ltb-false i n l))

-- ---- filling an array, place by place
module _ (room : ℕ) (f : ℕ → ℤ) where
  -- the array of the first i elements
  abbrev pub filled : ℕ → List ℤ
  filled i = padded room (tabulate i f)

  -- it begins with zeros
  pub fill_start : filled 0 ≡ replicate room (pos 0)
  unfolding padded
  fill_start = tabulate-zero room _ (λ x _. at-past (tabulate 0 f) x (rw length-tabulate zero-le))

  -- one element more leaves the others
  other : (i x : ℕ) → (x ≡ i → ⊥) → at (tabulate i f) x ≡ at (tabulate (suc i) f) x
  other i x o = by (ltb x i) refl
    where
      by : (b : Bool) → ltb x i ≡ b → at (tabulate i f) x ≡ at (tabulate (suc i) f) x
      by true q =
          let below : x < i = ltb-true x i q in
          at-tabulate i f x below ∙ sym (at-tabulate (suc i) f x (omega arith))
      by false q =
          let from : i ≤ x = ltb-false x i q in
          let above : suc i ≤ x = omega (arith, o) in
          at-past (tabulate i f) x (rw length-tabulate from)
          ∙ sym (at-past (tabulate (suc i) f) x (rw length-tabulate above))

  -- each turn sets the next place
  pub fill-next : {i : ℕ} {z : List ℤ} {v : ℤ} → i < room → z ≡ filled i → v ≡ f i → set z i v ≡ filled (i + 1)
  unfolding padded
  fill-next {i} {z} {v} l e q =
      let here = q ∙ sym (at-tabulate (suc i) f i (le_refl (suc i))) in
      rw (add-one, e) (tabulate-set room (at (tabulate i f)) (at (tabulate (suc i) f)) l here (λ x _ o. other i x o))

  -- for a proof that walks the loop by hand: the kit finds this step by itself. Its end
  pub fill_end : {i n : ℕ} {z : List ℤ} → i ≡ n → z ≡ filled i → z ≡ filled n
  fill_end e q = q ∙ ap filled e
