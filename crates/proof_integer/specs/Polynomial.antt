-- Expressions over ℤ and their normal forms: `norm` multiplies an expression out, sorts its terms and collects them,
-- and `norm-tot` says that the value stays.
-- The solvers of Solve stand on this file. To use them, nothing of it is needed but the signs `lit ⊕ ⊖ ⊗`, which
-- Solve passes on.
use Rattle.std.specs.Prelude.{◌≡◌, refl, List, [], ◌∷◌, T, ℤ, pos, negsuc, neg_ℤ, ◌+ℤ◌, ◌-ℤ◌, ◌*ℤ◌}
use Rattle.std.proofs.Common.{sym, ◌∙◌, ap, ap₂, eqb→eq}
use Prim.Native.Nat.{ℕ, zero, suc, compare, Ordering}
use Rattle.std.proofs.Math.Dec.{compare_is_eq}
use Rattle.std.proofs.Math.IntN.{+ℤ_assoc, +ℤ_idl, +ℤ_idr, neg_ℤ-+ℤ, *ℤ-zero, zero-*ℤ}
use Rattle.proof_integer.specs.Ring.{+ℤ-left-comm, *ℤ-assoc, *ℤ-left-comm, *ℤ-swap4, *ℤ-+ℤ, +ℤ-*ℤ}
use Rattle.proof_integer.specs.Ring.{neg-*ℤ, one-*ℤ, *ℤ-1}

-- ---- expressions: variables by number, naturals, and + − ·
infixl 6 ◌⊕◌ ◌⊖◌
infixl 7 ◌⊗◌
pub data Ex : Type 0 where
  var : ℕ → Ex
  lit : ℕ → Ex
  ◌⊕◌ : Ex → Ex → Ex
  ◌⊖◌ : Ex → Ex → Ex
  ◌⊗◌ : Ex → Ex → Ex

abbrev nth : List ℤ → ℕ → ℤ
nth [] i = pos 0
nth (x ∷ ρ) zero = x
nth (x ∷ ρ) (suc i) = nth ρ i

-- the value of an expression, where variable i is number i of ρ
abbrev pub ev : Ex → List ℤ → ℤ
ev (var i) ρ = nth ρ i
ev (lit n) ρ = pos n
ev (a ⊕ b) ρ = ev a ρ +ℤ ev b ρ
ev (a ⊖ b) ρ = ev a ρ -ℤ ev b ρ
ev (a ⊗ b) ρ = ev a ρ *ℤ ev b ρ

-- ---- monomials: the variables of a product, in order
abbrev pub mono : List ℕ → List ℤ → ℤ
mono [] ρ = pos 1
mono (i ∷ m) ρ = nth ρ i *ℤ mono m ρ

abbrev pick : Ordering → List ℕ → List ℕ → List ℕ
pick Ordering.lt x y = x
pick Ordering.eq x y = x
pick Ordering.gt x y = y

-- one more variable
abbrev ins_m : ℕ → List ℕ → List ℕ
ins_m i [] = i ∷ []
ins_m i (j ∷ m) = pick (compare i j) (i ∷ j ∷ m) (j ∷ ins_m i m)

-- the product of two monomials
abbrev join : List ℕ → List ℕ → List ℕ
join [] n = n
join (i ∷ m) n = ins_m i (join m n)

mono-pick : (o : Ordering) (x y : List ℕ) (ρ : List ℤ) (r : ℤ) → mono x ρ ≡ r → mono y ρ ≡ r → mono (pick o x y) ρ ≡ r
mono-pick Ordering.lt x y ρ r p q = p
mono-pick Ordering.eq x y ρ r p q = p
mono-pick Ordering.gt x y ρ r p q = q

mono-ins : (i : ℕ) (m : List ℕ) (ρ : List ℤ) → mono (ins_m i m) ρ ≡ nth ρ i *ℤ mono m ρ
mono-ins i [] ρ = refl
mono-ins i (j ∷ m) ρ =
    mono-pick (compare i j) (i ∷ j ∷ m) (j ∷ ins_m i m) ρ (nth ρ i *ℤ (nth ρ j *ℤ mono m ρ)) refl
    (ap (λ t. nth ρ j *ℤ t) (mono-ins i m ρ) ∙ *ℤ-left-comm (nth ρ j) (nth ρ i) (mono m ρ))

mono-join : (m n : List ℕ) (ρ : List ℤ) → mono (join m n) ρ ≡ mono m ρ *ℤ mono n ρ
mono-join [] n ρ = sym (one-*ℤ (mono n ρ))
mono-join (i ∷ m) n ρ =
    mono-ins i (join m n) ρ
    ∙ ap (λ t. nth ρ i *ℤ t) (mono-join m n ρ)
    ∙ sym (*ℤ-assoc (nth ρ i) (mono m ρ) (mono n ρ))

-- the order of two monomials
abbrev next : Ordering → Ordering → Ordering
next Ordering.lt o = Ordering.lt
next Ordering.eq o = o
next Ordering.gt o = Ordering.gt

abbrev cmp : List ℕ → List ℕ → Ordering
cmp [] [] = Ordering.eq
cmp [] (j ∷ n) = Ordering.lt
cmp (i ∷ m) [] = Ordering.gt
cmp (i ∷ m) (j ∷ n) = next (compare i j) (cmp m n)

next-first : (o q : Ordering) → T (compare_is_eq (next o q)) → T (compare_is_eq o)
next-first Ordering.lt q t = t
next-first Ordering.eq q t = tt
next-first Ordering.gt q t = t

next_last : (o q : Ordering) → T (compare_is_eq (next o q)) → T (compare_is_eq q)
next_last Ordering.lt q t = absurd t
next_last Ordering.eq q t = t
next_last Ordering.gt q t = absurd t

cmp-eq : (m n : List ℕ) → T (compare_is_eq (cmp m n)) → m ≡ n
cmp-eq [] [] t = refl
cmp-eq [] (j ∷ n) t = absurd t
cmp-eq (i ∷ m) [] t = absurd t
cmp-eq (i ∷ m) (j ∷ n) t =
    ap₂ ◌∷◌ (eqb→eq i j (next-first (compare i j) (cmp m n) t)) (cmp-eq m n (next_last (compare i j) (cmp m n) t))

-- ---- polynomials: monomials in order, each with its coefficient, which is not 0
pub data Poly : Type 0 where
  empty : Poly
  more : ℤ → List ℕ → Poly → Poly

-- the value of a polynomial
abbrev pub tot : Poly → List ℤ → ℤ
tot empty ρ = pos 0
tot (more c m p) ρ = c *ℤ mono m ρ +ℤ tot p ρ

-- one more term in front, unless its coefficient is 0
abbrev keep : ℤ → List ℕ → Poly → Poly
keep (pos zero) m p = p
keep (pos (suc c)) m p = more (pos (suc c)) m p
keep (negsuc c) m p = more (negsuc c) m p

keep-tot : (c : ℤ) (m : List ℕ) (p : Poly) (ρ : List ℤ) → tot (keep c m p) ρ ≡ c *ℤ mono m ρ +ℤ tot p ρ
keep-tot (pos zero) m p ρ = sym (ap (λ t. t +ℤ tot p ρ) (zero-*ℤ (mono m ρ)) ∙ +ℤ_idl (tot p ρ))
keep-tot (pos (suc c)) m p ρ = refl
keep-tot (negsuc c) m p ρ = refl

-- one more term, at its place: c·m before d·n, into it, or into the rest r
abbrev place : Ordering → ℤ → List ℕ → ℤ → List ℕ → Poly → Poly → Poly
place Ordering.lt c m d n p r = more c m (more d n p)
place Ordering.eq c m d n p r = keep (c +ℤ d) n p
place Ordering.gt c m d n p r = more d n r

abbrev ins : ℤ → List ℕ → Poly → Poly
ins c m empty = more c m empty
ins c m (more d n p) = place (cmp m n) c m d n p (ins c m p)

place-tot : (o : Ordering) (c : ℤ) (m : List ℕ) (d : ℤ) (n : List ℕ) (p r : Poly) (ρ : List ℤ)
    → (T (compare_is_eq o) → m ≡ n)
    → tot r ρ ≡ c *ℤ mono m ρ +ℤ tot p ρ
    → tot (place o c m d n p r) ρ ≡ c *ℤ mono m ρ +ℤ (d *ℤ mono n ρ +ℤ tot p ρ)
place-tot Ordering.lt c m d n p r ρ e h = refl
place-tot Ordering.eq c m d n p r ρ e h =
    keep-tot (c +ℤ d) n p ρ
    ∙ ap (λ t. t +ℤ tot p ρ) (+ℤ-*ℤ c d (mono n ρ))
    ∙ +ℤ_assoc (c *ℤ mono n ρ) (d *ℤ mono n ρ) (tot p ρ)
    ∙ ap (λ t. c *ℤ mono t ρ +ℤ (d *ℤ mono n ρ +ℤ tot p ρ)) (sym (e tt))
place-tot Ordering.gt c m d n p r ρ e h =
    ap (λ t. d *ℤ mono n ρ +ℤ t) h ∙ +ℤ-left-comm (d *ℤ mono n ρ) (c *ℤ mono m ρ) (tot p ρ)

ins-tot : (c : ℤ) (m : List ℕ) (p : Poly) (ρ : List ℤ) → tot (ins c m p) ρ ≡ c *ℤ mono m ρ +ℤ tot p ρ
ins-tot c m empty ρ = refl
ins-tot c m (more d n p) ρ = place-tot (cmp m n) c m d n p (ins c m p) ρ (cmp-eq m n) (ins-tot c m p ρ)

-- ---- the operations of polynomials
abbrev add_p : Poly → Poly → Poly
add_p empty q = q
add_p (more c m p) q = ins c m (add_p p q)

add_p-tot : (p q : Poly) (ρ : List ℤ) → tot (add_p p q) ρ ≡ tot p ρ +ℤ tot q ρ
add_p-tot empty q ρ = sym (+ℤ_idl (tot q ρ))
add_p-tot (more c m p) q ρ =
    ins-tot c m (add_p p q) ρ
    ∙ ap (λ t. c *ℤ mono m ρ +ℤ t) (add_p-tot p q ρ)
    ∙ sym (+ℤ_assoc (c *ℤ mono m ρ) (tot p ρ) (tot q ρ))

abbrev neg_p : Poly → Poly
neg_p empty = empty
neg_p (more c m p) = more (neg_ℤ c) m (neg_p p)

neg_p-tot : (p : Poly) (ρ : List ℤ) → tot (neg_p p) ρ ≡ neg_ℤ (tot p ρ)
neg_p-tot empty ρ = refl
neg_p-tot (more c m p) ρ = ap₂ ◌+ℤ◌ (neg-*ℤ c (mono m ρ)) (neg_p-tot p ρ) ∙ sym (neg_ℤ-+ℤ (c *ℤ mono m ρ) (tot p ρ))

-- by one term
abbrev scale_p : ℤ → List ℕ → Poly → Poly
scale_p c m empty = empty
scale_p c m (more d n q) = ins (c *ℤ d) (join m n) (scale_p c m q)

scale_p-tot : (c : ℤ) (m : List ℕ) (q : Poly) (ρ : List ℤ) → tot (scale_p c m q) ρ ≡ c *ℤ mono m ρ *ℤ tot q ρ
scale_p-tot c m empty ρ = sym (*ℤ-zero (c *ℤ mono m ρ))
scale_p-tot c m (more d n q) ρ =
    ins-tot (c *ℤ d) (join m n) (scale_p c m q) ρ
    ∙ ap₂ ◌+ℤ◌ (ap (λ t. c *ℤ d *ℤ t) (mono-join m n ρ) ∙ *ℤ-swap4 c d (mono m ρ) (mono n ρ)) (scale_p-tot c m q ρ)
    ∙ sym (*ℤ-+ℤ (c *ℤ mono m ρ) (d *ℤ mono n ρ) (tot q ρ))

abbrev mul_p : Poly → Poly → Poly
mul_p empty q = empty
mul_p (more c m p) q = add_p (scale_p c m q) (mul_p p q)

mul_p-tot : (p q : Poly) (ρ : List ℤ) → tot (mul_p p q) ρ ≡ tot p ρ *ℤ tot q ρ
mul_p-tot empty q ρ = sym (zero-*ℤ (tot q ρ))
mul_p-tot (more c m p) q ρ =
    add_p-tot (scale_p c m q) (mul_p p q) ρ
    ∙ ap₂ ◌+ℤ◌ (scale_p-tot c m q ρ) (mul_p-tot p q ρ)
    ∙ sym (+ℤ-*ℤ (c *ℤ mono m ρ) (tot p ρ) (tot q ρ))

-- ---- the normal form of an expression
abbrev pub norm : Ex → Poly
norm (var i) = more (pos 1) (i ∷ []) empty
norm (lit n) = keep (pos n) [] empty
norm (a ⊕ b) = add_p (norm a) (norm b)
norm (a ⊖ b) = add_p (norm a) (neg_p (norm b))
norm (a ⊗ b) = mul_p (norm a) (norm b)

pub norm-tot : (a : Ex) (ρ : List ℤ) → ev a ρ ≡ tot (norm a) ρ
norm-tot (var i) ρ = sym (+ℤ_idr (pos 1 *ℤ (nth ρ i *ℤ pos 1)) ∙ one-*ℤ (nth ρ i *ℤ pos 1) ∙ *ℤ-1 (nth ρ i))
norm-tot (lit n) ρ = sym (keep-tot (pos n) [] empty ρ ∙ +ℤ_idr (pos n *ℤ pos 1) ∙ *ℤ-1 (pos n))
norm-tot (a ⊕ b) ρ = ap₂ ◌+ℤ◌ (norm-tot a ρ) (norm-tot b ρ) ∙ sym (add_p-tot (norm a) (norm b) ρ)
norm-tot (a ⊖ b) ρ =
    ap₂ ◌-ℤ◌ (norm-tot a ρ) (norm-tot b ρ)
    ∙ ap (λ t. tot (norm a) ρ +ℤ t) (sym (neg_p-tot (norm b) ρ))
    ∙ sym (add_p-tot (norm a) (neg_p (norm b)) ρ)
norm-tot (a ⊗ b) ρ = ap₂ ◌*ℤ◌ (norm-tot a ρ) (norm-tot b ρ) ∙ sym (mul_p-tot (norm a) (norm b) ρ)
