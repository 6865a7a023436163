-- Finite sums of integers: `sum_to n f` is Σ_{j<n} f j. Their laws: linear, monotone, bounded, and two
-- sums in either order.
use Rattle.std.specs.Prelude.{◌≡◌, refl, ℕ, zero, suc, ◌*◌, ◌<◌, ◌≤◌, ℤ, pos, neg_ℤ, nat_abs, ◌+ℤ◌, ◌-ℤ◌, ◌*ℤ◌, ◌≤ℤ◌}
use Rattle.std.proofs.Common.{sym, ◌∙◌, ap, ap₂, arith, le_refl, le_trans, mul-le-mul_right}
use Rattle.std.proofs.Math.Nat.{le_step}
use Rattle.std.proofs.Math.IntN.{+ℤ_idr, +ℤ_invr, neg_ℤ-+ℤ, *ℤ-zero, zero-*ℤ}
use Rattle.std.specs.Int.Signed.{≤ℤ_refl}
use Rattle.rules.specs.Notation.{sum_to}
use Rattle.proof_integer.specs.Parts.{difs, as-dif}
use Rattle.proof_integer.specs.Ring.{+ℤ-swap4, *ℤ-+ℤ, +ℤ-*ℤ}
use Rattle.proof_integer.specs.Order.{+ℤ-mono}
use Rattle.proof_integer.specs.Range.{Bnd, bnd-of, ◌b+◌}

-- ---- its two equations, for proofs by `rw` and `simp`
pub sum_to-zero : (f : ℕ → ℤ) → sum_to 0 f ≡ pos 0
unfolding sum_to
sum_to-zero f = refl

pub sum_to-suc : (n : ℕ) (f : ℕ → ℤ) → sum_to (suc n) f ≡ sum_to n f +ℤ f n
unfolding sum_to
sum_to-suc n f = refl

-- ---- equal sums: only the places below n count
pub sum_to-cong : (n : ℕ) (f g : ℕ → ℤ) → ((j : ℕ) → j < n → f j ≡ g j) → sum_to n f ≡ sum_to n g
unfolding sum_to
sum_to-cong zero f g h = refl
sum_to-cong (suc n) f g h = ap₂ ◌+ℤ◌ (sum_to-cong n f g (λ j l. h j (le_step l))) (h n (le_refl (suc n)))

-- ---- sums of 0, of a constant, of sums and differences, and a common factor
pub sum_to-none : (n : ℕ) → sum_to n (λ j. pos 0) ≡ pos 0
unfolding sum_to
sum_to-none zero = refl
sum_to-none (suc n) = +ℤ_idr (sum_to n (λ j. pos 0)) ∙ sum_to-none n

pub sum_to-const : (n : ℕ) (c : ℤ) → sum_to n (λ j. c) ≡ pos n *ℤ c
unfolding sum_to
sum_to-const zero c = sym (zero-*ℤ c)
sum_to-const (suc n) c = ap (λ t. t +ℤ c) (sum_to-const n c) ∙ one_more n c
  where
    one_more : (n : ℕ) (c : ℤ) → pos n *ℤ c +ℤ c ≡ pos (suc n) *ℤ c
    one_more n c = rw (as-dif c) (simp difs (omega arith))

pub sum_to-add : (n : ℕ) (f g : ℕ → ℤ) → sum_to n (λ j. f j +ℤ g j) ≡ sum_to n f +ℤ sum_to n g
unfolding sum_to
sum_to-add zero f g = refl
sum_to-add (suc n) f g = ap (λ t. t +ℤ (f n +ℤ g n)) (sum_to-add n f g) ∙ +ℤ-swap4 (sum_to n f) (sum_to n g) (f n) (g n)

pub sum_to-neg : (n : ℕ) (f : ℕ → ℤ) → sum_to n (λ j. neg_ℤ (f j)) ≡ neg_ℤ (sum_to n f)
unfolding sum_to
sum_to-neg zero f = refl
sum_to-neg (suc n) f = ap (λ t. t +ℤ neg_ℤ (f n)) (sum_to-neg n f) ∙ sym (neg_ℤ-+ℤ (sum_to n f) (f n))

pub sum_to-sub : (n : ℕ) (f g : ℕ → ℤ) → sum_to n (λ j. f j -ℤ g j) ≡ sum_to n f -ℤ sum_to n g
sum_to-sub n f g = sum_to-add n f (λ j. neg_ℤ (g j)) ∙ ap (λ t. sum_to n f +ℤ t) (sum_to-neg n g)

pub sum_to-scale : (n : ℕ) (c : ℤ) (f : ℕ → ℤ) → sum_to n (λ j. c *ℤ f j) ≡ c *ℤ sum_to n f
unfolding sum_to
sum_to-scale zero c f = sym (*ℤ-zero c)
sum_to-scale (suc n) c f = ap (λ t. t +ℤ c *ℤ f n) (sum_to-scale n c f) ∙ sym (*ℤ-+ℤ c (sum_to n f) (f n))

pub sum_to-scale-r : (n : ℕ) (c : ℤ) (f : ℕ → ℤ) → sum_to n (λ j. f j *ℤ c) ≡ sum_to n f *ℤ c
unfolding sum_to
sum_to-scale-r zero c f = sym (zero-*ℤ c)
sum_to-scale-r (suc n) c f = ap (λ t. t +ℤ f n *ℤ c) (sum_to-scale-r n c f) ∙ sym (+ℤ-*ℤ (sum_to n f) (f n) c)

-- ---- the steps from f 0 to f n add up to the way between them
pub sum_to-telescope : (n : ℕ) (f : ℕ → ℤ) → sum_to n (λ j. f (suc j) -ℤ f j) ≡ f n -ℤ f 0
unfolding sum_to
sum_to-telescope zero f = sym (+ℤ_invr (f 0))
sum_to-telescope (suc n) f = ap (λ t. t +ℤ (f (suc n) -ℤ f n)) (sum_to-telescope n f) ∙ one_more (f 0) (f n) (f (suc n))
  where
    one_more : (a b c : ℤ) → (b -ℤ a) +ℤ (c -ℤ b) ≡ c -ℤ a
    one_more a b c = rw (as-dif a, as-dif b, as-dif c) (simp difs (omega arith))

-- ---- the order of two sums does not matter
pub sum_to-swap : (n m : ℕ) (f : ℕ → ℕ → ℤ)
    → sum_to n (λ i. sum_to m (λ j. f i j)) ≡ sum_to m (λ j. sum_to n (λ i. f i j))
unfolding sum_to
sum_to-swap zero m f = sym (sum_to-none m)
sum_to-swap (suc n) m f =
    ap (λ t. t +ℤ sum_to m (λ j. f n j)) (sum_to-swap n m f)
    ∙ sym (sum_to-add m (λ j. sum_to n (λ i. f i j)) (λ j. f n j))

-- ---- comparisons, place by place
pub sum_to-mono : (n : ℕ) (f g : ℕ → ℤ) → ((j : ℕ) → j < n → f j ≤ℤ g j) → sum_to n f ≤ℤ sum_to n g
unfolding sum_to
sum_to-mono zero f g h = ≤ℤ_refl (pos 0)
sum_to-mono (suc n) f g h = +ℤ-mono (sum_to-mono n f g (λ j l. h j (le_step l))) (h n (le_refl (suc n)))

-- ---- bounds: if each |f j| ≤ B, then |Σ_{j<n} f j| ≤ n·B
sum_to-abs : (n B : ℕ) (f : ℕ → ℤ) → ((j : ℕ) → j < n → nat_abs (f j) ≤ B) → nat_abs (sum_to n f) ≤ n * B
unfolding sum_to
sum_to-abs zero B f h = omega arith
sum_to-abs (suc n) B f h =
    let rest : Bnd (sum_to n f) (n * B) = bnd-of (sum_to n f) (sum_to-abs n B f (λ j l. h j (le_step l))) in
    omega (arith, (rest b+ bnd-of (f n) (h n (le_refl (suc n)))).bnd)

-- the same with N ≥ n in place of n, as where n is a variable and N its numeral bound
pub sum_to-bnd : {N B : ℕ} (n : ℕ) (f : ℕ → ℤ) → n ≤ N → ((j : ℕ) → j < n → Bnd (f j) B) → Bnd (sum_to n f) (N * B)
sum_to-bnd {N} {B} n f l h = record { bnd = le_trans (sum_to-abs n B f (λ j k. (h j k).bnd)) (mul-le-mul_right B l) }
