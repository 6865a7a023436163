-- Each technique of this crate in use. Find the example that looks like your goal, and copy its proof and its imports.
use Rattle.std.specs.Prelude.{◌≡◌, [], ◌∷◌, ℕ, suc, ◌*◌, ◌^◌, ◌<◌, ◌≤◌, ℤ, pos, negsuc, neg_ℤ, nat_abs, ◌+ℤ◌, ◌-ℤ◌}
use Rattle.std.specs.Prelude.{◌*ℤ◌, ◌≤ℤ◌, ◌<ℤ◌}
use Rattle.std.proofs.Common.{ap, arith, SFits}
use Rattle.std.specs.Int.Signed.{≤ℤ_refl}
use Rattle.std.proofs.Math.Facts.{sfits_lit}
use Rattle.std.specs.Int.{w32, w64}
use Rattle.proof_integer.specs.Parts.{difs, as-dif}
use Rattle.proof_integer.specs.Ring.{ringℤ-rules}
use Rattle.proof_integer.specs.Order.{gap-mul, square-nonneg, max_cases}
use Rattle.proof_integer.specs.Solve.{lit, ◌⊕◌, ◌⊖◌, ◌⊗◌, ◌≋◌, ◌≼◌, ◌≺◌, never, ◌⊢◌, ringℤ, omegaℤ}
use Rattle.proof_integer.specs.Range.{Bnd, ◌b+◌, ◌b-◌, ◌b*◌, b-lit, b-up, bnd-of, sfits-bnd, bnd-sfits}
use Rattle.proof_integer.specs.Range.{bnd-between, between-bnd, sfits-between}
use Rattle.proof_integer.specs.Sum.{sum_to-cong, sum_to-add, sum_to-scale, sum_to-telescope, sum_to-bnd}
use Rattle.proof_integer.specs.Vector.{at-tabulate}
use Rattle.rules.specs.Notation.{maxℤ, sum_to, tabulate, at}

-- ---- linear goals, in their own terms: `as-dif` of each atom once, the hypotheses in the goal
-- inequalities from inequalities
linear : (x y z w : ℤ) → x ≤ℤ y → (y +ℤ z) ≤ℤ w → (x +ℤ z) ≤ℤ w
linear x y z w = rw (as-dif x, as-dif y, as-dif z, as-dif w) (simp difs (omega arith))

-- x and y are whole, so half a unit more makes no difference
linear-whole : (x y : ℤ) → (pos 2 *ℤ x) ≤ℤ (pos 2 *ℤ y +ℤ pos 1) → x ≤ℤ y
linear-whole x y = rw (as-dif x, as-dif y) (simp difs (omega arith))

-- an atom may be any term: a product, a call
linear-at-terms : (f : ℕ → ℤ) (i : ℕ) (x y : ℤ) → f i ≡ x *ℤ y -ℤ pos 1 → negsuc 4 ≤ℤ (x *ℤ y) → negsuc 5 ≤ℤ f i
linear-at-terms f i x y = rw (as-dif (f i), as-dif (x *ℤ y)) (simp difs (omega arith))

-- ---- consequences, multiplied out first: `omegaℤ`
-- products count as unknowns, whatever the order of their factors
consequence : (a b q : ℤ) → (a +ℤ b) *ℤ q ≡ pos 10 → (pos 2 *ℤ q *ℤ b) ≤ℤ pos 7 → pos 13 ≤ℤ (pos 2 *ℤ (a *ℤ q))
consequence =
    omegaℤ 3 (λ a b q. ((a ⊕ b) ⊗ q ≋ lit 10) ∷ (lit 2 ⊗ q ⊗ b ≼ lit 7) ∷ [] ⊢ lit 13 ≼ lit 2 ⊗ (a ⊗ q)) (omega arith)

-- hypotheses that contradict each other: the goal is `never`
contradiction : (x y : ℤ) → x *ℤ y ≡ pos 5 → (y *ℤ x) <ℤ pos 5 → ⊥
contradiction = omegaℤ 2 (λ x y. (x ⊗ y ≋ lit 5) ∷ (y ⊗ x ≺ lit 5) ∷ [] ⊢ never) (omega arith)

-- at terms, with a fact handed over that is no hypothesis: a square is not negative
by-a-square : (f : ℕ → ℤ) (i j : ℕ) → (pos 2 *ℤ (f i *ℤ f j)) ≤ℤ (f i *ℤ f i +ℤ f j *ℤ f j)
by-a-square f i j =
    omegaℤ 2 (λ x y. (lit 0 ≼ (x ⊖ y) ⊗ (x ⊖ y)) ∷ [] ⊢ lit 2 ⊗ (x ⊗ y) ≼ x ⊗ x ⊕ y ⊗ y) (omega arith)
    (f i) (f j) (square-nonneg (f i -ℤ f j))

-- a product of two bounded variables: a product of two gaps is not negative
by-gaps : (x y : ℤ) → x ≤ℤ pos 9 → pos 3 ≤ℤ y → y ≤ℤ pos 8 → (x *ℤ y) ≤ℤ pos 72
by-gaps x y a b c =
    omegaℤ 2 (λ x y.
    (lit 0 ≼ (lit 9 ⊖ x) ⊗ (y ⊖ lit 3)) ∷ (x ≼ lit 9) ∷ (y ≼ lit 8) ∷ [] ⊢ x ⊗ y ≼ lit 72) (omega arith)
    x y (gap-mul a b) a c

-- ---- identities
-- of any size
identity : (m p g : ℤ) → (m +ℤ p *ℤ g) *ℤ (m +ℤ p *ℤ g) ≡ m *ℤ m +ℤ pos 2 *ℤ p *ℤ m *ℤ g +ℤ p *ℤ p *ℤ (g *ℤ g)
identity = ringℤ 3 (λ m p g. (m ⊕ p ⊗ g) ⊗ (m ⊕ p ⊗ g) ≋ m ⊗ m ⊕ lit 2 ⊗ p ⊗ m ⊗ g ⊕ p ⊗ p ⊗ (g ⊗ g)) tt

-- at terms
identity-at-terms : (f : ℕ → ℤ) (i j : ℕ) → f i *ℤ f j +ℤ f j *ℤ f i ≡ pos 20 *ℤ (f i *ℤ f j) -ℤ f i *ℤ f j *ℤ pos 18
identity-at-terms f i j = ringℤ 2 (λ x y. x ⊗ y ⊕ y ⊗ x ≋ lit 20 ⊗ (x ⊗ y) ⊖ x ⊗ y ⊗ lit 18) tt (f i) (f j)

-- small, and not restated
small-identity : (x y : ℤ) → (x -ℤ y) *ℤ (x +ℤ y) ≡ x *ℤ x -ℤ y *ℤ y
small-identity x y = simp ringℤ-rules

-- ---- the larger of two, by cases
square-of-larger : (x : ℤ) → (maxℤ x (pos 0) *ℤ maxℤ x (pos 0)) ≤ℤ (x *ℤ x)
square-of-larger x = max_cases x (pos 0) (λ m. (m *ℤ m) ≤ℤ (x *ℤ x)) (λ _. square-nonneg x) (λ _. ≤ℤ_refl (x *ℤ x))

-- ---- ranges
-- bounds put together as the expression is; the last comparison computes
fits-by-bounds : (x y z : ℤ) → Bnd x 1000 → SFits w32 y → Bnd z 5 → SFits w64 (x *ℤ y -ℤ pos 3 *ℤ z)
fits-by-bounds x y z h k l = bnd-sfits tt (h b* sfits-bnd k b- b-lit 3 b* l)

-- bounds that come as inequalities of ℤ or of ℕ
fits-by-inequalities : (x y : ℤ) → neg_ℤ (pos 1000) ≤ℤ x → x ≤ℤ pos 1000 → nat_abs y ≤ 2 ^ 30 → SFits w64 (x *ℤ y)
fits-by-inequalities x y h l k = bnd-sfits tt (bnd-between h l b* bnd-of y k)

-- a range that is not symmetric
fits-between : (z : ℤ) → negsuc 9 ≤ℤ z → z ≤ℤ pos 2000000000 → SFits w32 z
fits-between z h k = sfits-between (sfits_lit tt) (sfits_lit tt) h k

-- back to an inequality, after a looser bound
upper-end : (x y : ℤ) → Bnd x 10 → Bnd y 20 → (x +ℤ y) ≤ℤ pos 100
upper-end x y h k = (between-bnd (b-up tt (h b+ k))).1

-- a bound that is no numeral
bound-by-omega : (x y : ℤ) (n : ℕ) → n ≤ 1000 → Bnd x n → Bnd y (n * 3) → Bnd (x +ℤ y) 4000
bound-by-omega x y n l h k = bnd-of (x +ℤ y) (omega (arith, (h b+ k).bnd))

-- ---- sums
-- a sum taken apart by its laws
sum-apart : (n : ℕ) (c : ℤ) (f g : ℕ → ℤ) → sum_to n (λ j. f j +ℤ c *ℤ g j) ≡ sum_to n f +ℤ c *ℤ sum_to n g
sum-apart n c f g = simp (sum_to-add, sum_to-scale)

-- steps that add up to the way from the first to the last
sum-of-steps : (n : ℕ) (f : ℕ → ℤ) → sum_to n (λ t. pos 2 *ℤ (f (suc t) -ℤ f t)) ≡ pos 2 *ℤ (f n -ℤ f 0)
sum-of-steps n f = simp sum_to-scale (ap (λ s. pos 2 *ℤ s) (sum_to-telescope n f))

-- at most 32 products fit
sum_fits : (n : ℕ) (f g : ℕ → ℤ) → n ≤ 32
    → ((j : ℕ) → j < n → Bnd (f j) 1000) → ((j : ℕ) → j < n → Bnd (g j) 1000)
    → SFits w32 (sum_to n (λ j. f j *ℤ g j))
sum_fits n f g l h k = bnd-sfits tt (sum_to-bnd {N = 32} n (λ j. f j *ℤ g j) l (λ j i. h j i b* k j i))

-- ---- vectors: a sum over a list is the sum over what it was made of
sum-of-vector : (n : ℕ) (f : ℕ → ℤ) → sum_to n (λ j. at (tabulate n f) j) ≡ sum_to n f
sum-of-vector n f = sum_to-cong n (λ j. at (tabulate n f) j) f (λ j l. at-tabulate n f j l)
