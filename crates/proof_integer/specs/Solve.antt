-- The two solvers. Restate the fact over n named variables in the signs `lit ⊕ ⊖ ⊗ ≋ ≼ ≺`; apply the result to terms
-- where it is about terms.
--   an identity, both sides being the same when multiplied out:     ringℤ n (λ x y. a ≋ b) tt
--   a consequence, linear in its monomials when multiplied out:     omegaℤ n (λ x y. h ∷ k ∷ [] ⊢ g) (omega arith)
use Rattle.std.specs.Prelude.{◌≡◌, refl, List, [], ◌∷◌, ℕ, zero, suc, ◌+◌, ◌*◌, ◌≤◌, ◌<◌, ℤ, pos, negsuc, ◌-ℤ◌, ◌*ℤ◌}
use Rattle.std.specs.Prelude.{◌≤ℤ◌, ◌<ℤ◌}
use Rattle.std.proofs.Common.{◌∙◌, ap, arith}
use Rattle.proof_integer.specs.Parts.{difs, as-dif, up, dn, add_parts, sub_parts, mul-parts}
use Rattle.proof_integer.specs.Parts.{parts, by_parts, le→parts, parts→le, lt→parts, parts→lt}
use Rattle.proof_integer.specs.Polynomial.{Ex, var, ev, mono, Poly, empty, more, tot, norm, norm-tot}
pub use Rattle.proof_integer.specs.Polynomial.{lit, ◌⊕◌, ◌⊖◌, ◌⊗◌}

-- What a solver's type or refusal shows is `pub`. To use the solvers, only the signs, `never`, `ringℤ` and `omegaℤ` are
-- written.

-- ---- relations of two expressions, and `never`, which nothing meets
infix 4 ◌≋◌ ◌≼◌ ◌≺◌
pub data Rel : Type 0 where
  ◌≋◌ : Ex → Ex → Rel
  ◌≼◌ : Ex → Ex → Rel
  ◌≺◌ : Ex → Ex → Rel
  never : Rel

-- what a relation says, where variable i is number i of ρ
abbrev pub Says : Rel → List ℤ → Type 0
Says (a ≋ b) ρ = ev a ρ ≡ ev b ρ
Says (a ≼ b) ρ = ev a ρ ≤ℤ ev b ρ
Says (a ≺ b) ρ = ev a ρ <ℤ ev b ρ
Says never ρ = ⊥

-- ---- sequents: hypotheses and a goal
infix 3 ◌⊢◌
pub data Seq : Type 0 where
  ◌⊢◌ : List Rel → Rel → Seq

abbrev Imp : List Rel → Rel → List ℤ → Type 0
Imp [] g ρ = Says g ρ
Imp (h ∷ hs) g ρ = Says h ρ → Imp hs g ρ

abbrev pub Means : Seq → List ℤ → Type 0
Means (hs ⊢ g) ρ = Imp hs g ρ

-- ---- named variables: a function of n expressions, and a statement about all n integers
abbrev pub Exs : ℕ → Type 0 → Type 0
Exs zero A = A
Exs (suc n) A = Ex → Exs n A

-- the function at the variables i, i + 1, ..
abbrev pub app : {A : Type 0} (n : ℕ) → ℕ → Exs n A → A
app zero i f = f
app (suc n) i f = app n (suc i) (f (var i))

abbrev pub All : ℕ → (List ℤ → Type 0) → Type 0
All zero P = P []
All (suc n) P = (x : ℤ) → All n (λ ρ. P (x ∷ ρ))

all-intro : (n : ℕ) (P : List ℤ → Type 0) → ((ρ : List ℤ) → P ρ) → All n P
all-intro zero P f = f []
all-intro (suc n) P f = λ x. all-intro n (λ ρ. P (x ∷ ρ)) (λ ρ. f (x ∷ ρ))

all_map : (n : ℕ) (P Q : List ℤ → Type 0) → ((ρ : List ℤ) → P ρ → Q ρ) → All n P → All n Q
all_map zero P Q f r = f [] r
all_map (suc n) P Q f r = λ x. all_map n (λ ρ. P (x ∷ ρ)) (λ ρ. Q (x ∷ ρ)) (λ ρ. f (x ∷ ρ)) (r x)

-- ---- identities: the difference of the two sides has the normal form `empty`
-- what a false identity leaves over; nothing is of this type
pub data Left (p : Poly) : Type 0 where

abbrev Zero : Poly → Type 0
Zero empty = Unit {0}
Zero (more c m p) = Left (more c m p)

zero-tot : (p : Poly) (ρ : List ℤ) → Zero p → tot p ρ ≡ pos 0
zero-tot empty ρ t = refl
zero-tot (more c m p) ρ t = elim t [ ]

abbrev pub Same : Rel → Type 0
Same (a ≋ b) = Zero (norm (a ⊖ b))
Same (a ≼ b) = ⊥
Same (a ≺ b) = ⊥
Same never = ⊥

same-says : (s : Rel) (ρ : List ℤ) → Same s → Says s ρ
same-says (a ≋ b) ρ e = no_gap (ev a ρ) (ev b ρ) (norm-tot (a ⊖ b) ρ ∙ zero-tot (norm (a ⊖ b)) ρ e)
  where
    no_gap : (x y : ℤ) → x -ℤ y ≡ pos 0 → x ≡ y
    no_gap x y = rw (as-dif x, as-dif y) (simp difs (omega arith))
same-says (a ≼ b) ρ e = absurd e
same-says (a ≺ b) ρ e = absurd e
same-says never ρ e = absurd e

-- Where the sides differ, `tt` is refused, being no `Left`. With `?` for `tt`, `rt dev NAME --allow-holes` shows the
-- polynomial that is left over.
pub ringℤ : (n : ℕ) (s : Exs n Rel) → Same (app n 0 s) → All n (Says (app n 0 s))
ringℤ n s e = all-intro n (Says (app n 0 s)) (λ ρ. same-says (app n 0 s) ρ e)

-- ---- consequences: each relation, multiplied out, is read as one of naturals, whose unknowns are the two parts of
-- each monomial
-- a term c·z is hi_t c z − lo_t c z
abbrev lo_t : ℤ → ℤ → ℕ
lo_t (pos c) z = c * dn z
lo_t (negsuc c) z = suc c * up z

abbrev hi_t : ℤ → ℤ → ℕ
hi_t (pos c) z = c * up z
hi_t (negsuc c) z = suc c * dn z

-- a polynomial p is hi p − lo p
abbrev lo : Poly → List ℤ → ℕ
lo empty ρ = 0
lo (more c m p) ρ = lo_t c (mono m ρ) + lo p ρ

abbrev hi : Poly → List ℤ → ℕ
hi empty ρ = 0
hi (more c m p) ρ = hi_t c (mono m ρ) + hi p ρ

term-parts : (c z : ℤ) → up (c *ℤ z) + lo_t c z ≡ dn (c *ℤ z) + hi_t c z
term-parts (pos c) z = omega (arith, mul-parts (pos c) z)
term-parts (negsuc c) z = omega (arith, mul-parts (negsuc c) z)

poly-parts : (p : Poly) (ρ : List ℤ) → up (tot p ρ) + lo p ρ ≡ dn (tot p ρ) + hi p ρ
poly-parts empty ρ = refl
poly-parts (more c m p) ρ = omega (arith, add_parts (c *ℤ mono m ρ) (tot p ρ), term-parts c (mono m ρ), poly-parts p ρ)

-- b − a by the parts of its normal form
gap_parts : (a b : Ex) (ρ : List ℤ)
    → up (ev b ρ) + dn (ev a ρ) + lo (norm (b ⊖ a)) ρ ≡ up (ev a ρ) + dn (ev b ρ) + hi (norm (b ⊖ a)) ρ
gap_parts a b ρ = omega (
  arith,
  sub_parts (ev b ρ) (ev a ρ),
  ap up (norm-tot (b ⊖ a) ρ),
  ap dn (norm-tot (b ⊖ a) ρ),
  poly-parts (norm (b ⊖ a)) ρ,
)

-- what a relation says of naturals, and that it is the same
abbrev pub SaysN : Rel → List ℤ → Type 0
SaysN (a ≋ b) ρ = lo (norm (b ⊖ a)) ρ ≡ hi (norm (b ⊖ a)) ρ
SaysN (a ≼ b) ρ = lo (norm (b ⊖ a)) ρ ≤ hi (norm (b ⊖ a)) ρ
SaysN (a ≺ b) ρ = lo (norm (b ⊖ a)) ρ < hi (norm (b ⊖ a)) ρ
SaysN never ρ = ⊥

to_n : (s : Rel) (ρ : List ℤ) → Says s ρ → SaysN s ρ
to_n (a ≋ b) ρ h = omega (arith, gap_parts a b ρ, parts h)
to_n (a ≼ b) ρ h = omega (arith, gap_parts a b ρ, le→parts h)
to_n (a ≺ b) ρ h = omega (arith, gap_parts a b ρ, lt→parts h)
to_n never ρ h = h

from_n : (s : Rel) (ρ : List ℤ) → SaysN s ρ → Says s ρ
from_n (a ≋ b) ρ h = by_parts _ _ (omega (arith, gap_parts a b ρ))
from_n (a ≼ b) ρ h = parts→le (omega (arith, gap_parts a b ρ))
from_n (a ≺ b) ρ h = parts→lt (omega (arith, gap_parts a b ρ))
from_n never ρ h = h

-- the same for a sequent
abbrev ImpN : List Rel → Rel → List ℤ → Type 0
ImpN [] g ρ = SaysN g ρ
ImpN (h ∷ hs) g ρ = SaysN h ρ → ImpN hs g ρ

abbrev pub MeansN : Seq → List ℤ → Type 0
MeansN (hs ⊢ g) ρ = ImpN hs g ρ

imp_n : (hs : List Rel) (g : Rel) (ρ : List ℤ) → ImpN hs g ρ → Imp hs g ρ
imp_n [] g ρ r = from_n g ρ r
imp_n (h ∷ hs) g ρ r = λ e. imp_n hs g ρ (r (to_n h ρ e))

means_n : (s : Seq) (ρ : List ℤ) → MeansN s ρ → Means s ρ
means_n (hs ⊢ g) ρ r = imp_n hs g ρ r

-- The goal `never` asks for a contradiction. Where `omega` fails, it names values of the monomials' parts at which the
-- goal is false.
-- There may be at most 32 variables and hypotheses together.
pub omegaℤ : (n : ℕ) (s : Exs n Seq) → All n (MeansN (app n 0 s)) → All n (Means (app n 0 s))
omegaℤ n s r = all_map n (MeansN (app n 0 s)) (Means (app n 0 s)) (means_n (app n 0 s)) r
