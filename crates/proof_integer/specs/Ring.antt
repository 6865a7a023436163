-- ℤ is a commutative ring: the laws that lib.IntN leaves out. Name one where a proof goes step by step.
-- For a whole identity use `simp ringℤ-rules` (small ones) or `ringℤ` of Solve.
use Rattle.std.specs.Prelude.{◌≡◌, ℤ, pos, neg_ℤ, ◌+ℤ◌, ◌-ℤ◌, ◌*ℤ◌}
use Rattle.std.proofs.Common.{sym, ◌∙◌, ap, arith}
use Rattle.std.proofs.Math.IntN.{+ℤ_assoc, +ℤ_comm, +ℤ_idl, +ℤ_idr, +ℤ_invr, neg_ℤ-+ℤ, neg_ℤ-neg_ℤ, *ℤ_comm, *ℤ-zero}
use Rattle.std.proofs.Math.IntN.{zero-*ℤ}
use Rattle.proof_integer.specs.Parts.{difs, as-dif}

-- ---- order and grouping of summands and factors
pub +ℤ-left-comm : (x y z : ℤ) → x +ℤ (y +ℤ z) ≡ y +ℤ (x +ℤ z)
+ℤ-left-comm x y z = rw (as-dif x, as-dif y, as-dif z) (simp difs (omega arith))

pub +ℤ-swap4 : (p q r s : ℤ) → (p +ℤ q) +ℤ (r +ℤ s) ≡ (p +ℤ r) +ℤ (q +ℤ s)
+ℤ-swap4 p q r s = rw (as-dif p, as-dif q, as-dif r, as-dif s) (simp difs (omega arith))

pub *ℤ-assoc : (x y z : ℤ) → x *ℤ y *ℤ z ≡ x *ℤ (y *ℤ z)
*ℤ-assoc x y z = rw (as-dif x, as-dif y, as-dif z) (simp difs (omega arith))

pub *ℤ-left-comm : (x y z : ℤ) → x *ℤ (y *ℤ z) ≡ y *ℤ (x *ℤ z)
*ℤ-left-comm x y z = sym (*ℤ-assoc x y z) ∙ ap (λ t. t *ℤ z) (*ℤ_comm x y) ∙ *ℤ-assoc y x z

pub *ℤ-swap4 : (p q r s : ℤ) → (p *ℤ q) *ℤ (r *ℤ s) ≡ (p *ℤ r) *ℤ (q *ℤ s)
*ℤ-swap4 p q r s = *ℤ-assoc p q (r *ℤ s) ∙ ap (λ t. p *ℤ t) (*ℤ-left-comm q r s) ∙ sym (*ℤ-assoc p r (q *ℤ s))

-- ---- a product of a sum, a difference, a negation
pub *ℤ-+ℤ : (x y z : ℤ) → x *ℤ (y +ℤ z) ≡ x *ℤ y +ℤ x *ℤ z
*ℤ-+ℤ x y z = rw (as-dif x, as-dif y, as-dif z) (simp difs (omega arith))

pub +ℤ-*ℤ : (x y z : ℤ) → (x +ℤ y) *ℤ z ≡ x *ℤ z +ℤ y *ℤ z
+ℤ-*ℤ x y z = rw (as-dif x, as-dif y, as-dif z) (simp difs (omega arith))

pub *ℤ--ℤ : (x y z : ℤ) → x *ℤ (y -ℤ z) ≡ x *ℤ y -ℤ x *ℤ z
*ℤ--ℤ x y z = rw (as-dif x, as-dif y, as-dif z) (simp difs (omega arith))

pub neg-*ℤ : (x y : ℤ) → neg_ℤ x *ℤ y ≡ neg_ℤ (x *ℤ y)
neg-*ℤ x y = rw (as-dif x, as-dif y) (simp difs (omega arith))

pub *ℤ-neg : (x y : ℤ) → x *ℤ neg_ℤ y ≡ neg_ℤ (x *ℤ y)
*ℤ-neg x y = rw (as-dif x, as-dif y) (simp difs (omega arith))

-- ---- the factors 1 to 4, and a summand with its negation
pub one-*ℤ : (x : ℤ) → pos 1 *ℤ x ≡ x
one-*ℤ x = rw (as-dif x) (simp difs (omega arith))

pub *ℤ-1 : (x : ℤ) → x *ℤ pos 1 ≡ x
*ℤ-1 x = rw (as-dif x) (simp difs (omega arith))

pub *ℤ-2 : (x : ℤ) → x *ℤ pos 2 ≡ x +ℤ x
*ℤ-2 x = rw (as-dif x) (simp difs (omega arith))

pub *ℤ-3 : (x : ℤ) → x *ℤ pos 3 ≡ x +ℤ (x +ℤ x)
*ℤ-3 x = rw (as-dif x) (simp difs (omega arith))

pub *ℤ-4 : (x : ℤ) → x *ℤ pos 4 ≡ x +ℤ (x +ℤ (x +ℤ x))
*ℤ-4 x = rw (as-dif x) (simp difs (omega arith))

pub +ℤ-neg-left : (x y : ℤ) → x +ℤ (neg_ℤ x +ℤ y) ≡ y
+ℤ-neg-left x y = rw (as-dif x, as-dif y) (simp difs (omega arith))

-- `simp ringℤ-rules` multiplies both sides out and sorts them alike. It knows no numeral above 4
pub ruleset ringℤ-rules = (
  +ℤ_assoc,
  +ℤ_comm,
  +ℤ-left-comm,
  +ℤ_idl,
  +ℤ_idr,
  +ℤ_invr,
  +ℤ-neg-left,
  neg_ℤ-+ℤ,
  neg_ℤ-neg_ℤ,
  *ℤ-assoc,
  *ℤ_comm,
  *ℤ-left-comm,
  *ℤ-zero,
  zero-*ℤ,
  one-*ℤ,
  *ℤ-1,
  *ℤ-2,
  *ℤ-3,
  *ℤ-4,
  *ℤ-+ℤ,
  +ℤ-*ℤ,
  neg-*ℤ,
  *ℤ-neg,
)
