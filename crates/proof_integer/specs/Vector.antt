-- Vectors. A function `f : ℕ → A` gives each element, `tabulate n f` is the list of the first n, and `at` reads a list
-- of integers back, 0 past its end.
use Rattle.std.specs.Prelude.{◌≡◌, refl, ◌∷◌, ℕ, zero, suc, ◌<◌, length, get_or, ℤ, pos}
use Rattle.std.proofs.Common.{ap, ap₂, zero-le, suc-le-suc, le_of_suc-le-suc, not-suc-le-zero}
use Rattle.rules.specs.Notation.{tabulate, at}

pub length-tabulate {ℓ} : {A : Type ℓ} (n : ℕ) (f : ℕ → A) → length (tabulate n f) ≡ n
unfolding tabulate
length-tabulate zero f = refl
length-tabulate (suc n) f = ap suc (length-tabulate n (λ i. f (suc i)))

pub get_d_tabulate {ℓ} : {A : Type ℓ} (n : ℕ) (f : ℕ → A) (i : ℕ) (d : A) → i < n → get_or (tabulate n f) i d ≡ f i
unfolding tabulate
get_d_tabulate zero f i d h = absurd (not-suc-le-zero h)
get_d_tabulate (suc n) f zero d h = refl
get_d_tabulate (suc n) f (suc i) d h = get_d_tabulate n (λ j. f (suc j)) i d (le_of_suc-le-suc h)

-- the same with the default 0, for `rw` and `simp` at `at`
pub at-tabulate : (n : ℕ) (f : ℕ → ℤ) (i : ℕ) → i < n → at (tabulate n f) i ≡ f i
at-tabulate n f i h = get_d_tabulate n f i (pos 0) h

-- only the elements below n count
pub tabulate-cong {ℓ} : {A : Type ℓ} (n : ℕ) (f g : ℕ → A) → ((i : ℕ) → i < n → f i ≡ g i) → tabulate n f ≡ tabulate n g
unfolding tabulate
tabulate-cong zero f g h = refl
tabulate-cong (suc n) f g h =
    ap₂ ◌∷◌ (h 0 (suc-le-suc zero-le))
    (tabulate-cong n (λ i. f (suc i)) (λ i. g (suc i)) (λ i l. h (suc i) (suc-le-suc l)))
