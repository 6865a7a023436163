-- Bounds of |z| by a natural, and whether z fits a signed width. Reach for it where code must not overflow:
-- put the variables' bounds together as the expression is, and compare at the end, as in
-- `bnd-sfits tt (h b* k b+ b-lit 3)`.
use Rattle.std.specs.Prelude.{◌≡◌, refl, true, ℕ, zero, suc, ◌+◌, ◌*◌, ◌^◌, ◌<◌, ◌≤◌, T, ltb, leb, ℤ, pos, negsuc}
use Rattle.std.specs.Prelude.{neg_ℤ, nat_abs, ◌+ℤ◌, ◌-ℤ◌, ◌*ℤ◌, ◌≤ℤ◌}
use Rattle.std.proofs.Common.{ap, arith, le_refl, le_trans, lt_of_le_of_lt, lt_of_lt_of_le, mul-le-mul, ltb→lt, leb→le}
use Rattle.std.proofs.Common.{ltb-true, le-ltb, to_z-of_z}
use Rattle.std.specs.Int.Signed.{mag, le_z, lt_z, nat_abs-le}
use Rattle.std.specs.Int.{Width}
use mir.Val.{SFits, hbits, to_z, of_z}
use Rattle.std.proofs.Math.Facts.{to_z_pos}
use Rattle.proof_integer.specs.Parts.{up, dn, neg-up, neg-dn, add_parts, le→parts, parts→le}

-- ---- the absolute value: by the parts, of a sum, a negation and a product
abs-parts : (z : ℤ) → nat_abs z ≡ up z + dn z
abs-parts (pos n) = omega arith
abs-parts (negsuc n) = omega arith

within : (z : ℤ) (s : ℕ) → up z ≤ s + dn z → dn z ≤ s + up z → nat_abs z ≤ s
within (pos n) s h k = omega arith
within (negsuc n) s h k = omega arith

abs-add : (x y : ℤ) → nat_abs (x +ℤ y) ≤ nat_abs x + nat_abs y
abs-add x y =
    within (x +ℤ y) (nat_abs x + nat_abs y)
    (omega (arith, add_parts x y, abs-parts x, abs-parts y))
    (omega (arith, add_parts x y, abs-parts x, abs-parts y))

abs_neg : (x : ℤ) → nat_abs (neg_ℤ x) ≡ nat_abs x
abs_neg (pos zero) = refl
abs_neg (pos (suc n)) = refl
abs_neg (negsuc n) = refl

abs-mul : (x y : ℤ) → nat_abs (x *ℤ y) ≡ nat_abs x * nat_abs y
abs-mul (pos a) (pos b) = refl
abs-mul (pos a) (negsuc b) = abs_neg (pos (a * suc b))
abs-mul (negsuc a) (pos b) = abs_neg (pos (suc a * b))
abs-mul (negsuc a) (negsuc b) = refl

-- ---- |x| ≤ a. It is a record so that x and a can be read off a hypothesis
infixl 6 ◌b+◌ ◌b-◌
infixl 7 ◌b*◌
pub record Bnd (x : ℤ) (a : ℕ) : Type 0 where
  pub bnd : nat_abs x ≤ a

pub bnd-of : {a : ℕ} (x : ℤ) → nat_abs x ≤ a → Bnd x a
bnd-of x h = record { bnd = h }

pub ◌b+◌ : {x y : ℤ} {a b : ℕ} → Bnd x a → Bnd y b → Bnd (x +ℤ y) (a + b)
◌b+◌ {x} {y} h k = record { bnd = omega (arith, abs-add x y) }

pub ◌b-◌ : {x y : ℤ} {a b : ℕ} → Bnd x a → Bnd y b → Bnd (x -ℤ y) (a + b)
◌b-◌ {x} {y} h k = record { bnd = omega (arith, abs-add x (neg_ℤ y), abs_neg y) }

pub ◌b*◌ : {x y : ℤ} {a b : ℕ} → Bnd x a → Bnd y b → Bnd (x *ℤ y) (a * b)
◌b*◌ {x} {y} h k = record { bnd = rw (abs-mul x y) (mul-le-mul h.bnd k.bnd) }

pub b-lit : (n : ℕ) → Bnd (pos n) n
b-lit n = record { bnd = le_refl n }

-- a looser bound; between two numerals the test computes, `b-up tt h`
pub b-up : {x : ℤ} {a b : ℕ} → T (leb a b) → Bnd x a → Bnd x b
b-up {x} {a} {b} t h = record { bnd = le_trans h.bnd (leb→le a b t) }

-- ---- the bound as two inequalities of ℤ
pub bnd-between : {x : ℤ} {a : ℕ} → neg_ℤ (pos a) ≤ℤ x → x ≤ℤ pos a → Bnd x a
bnd-between {x} {a} h k = record {
  bnd = within x a (omega (arith, le→parts k)) (omega (arith, le→parts h, neg-up (pos a), neg-dn (pos a)));
}

pub between-bnd : {x : ℤ} {a : ℕ} → Bnd x a → (neg_ℤ (pos a) ≤ℤ x) × (x ≤ℤ pos a)
between-bnd {x} {a} h =
    (parts→le (omega (arith, neg-up (pos a), neg-dn (pos a), abs-parts x)), parts→le (omega (arith, abs-parts x)))

-- ---- from and to a signed width; at a numeral the test computes, `bnd-sfits tt h`
pub sfits-bnd : {w : Width} {z : ℤ} → SFits w z → Bnd z (2 ^ hbits w)
sfits-bnd {w} {z} h = record { bnd = nat_abs-le z h.sfits }

pub bnd-sfits : {w : Width} {z : ℤ} {a : ℕ} → T (ltb a (2 ^ hbits w)) → Bnd z a → SFits w z
bnd-sfits {w} {z} {a} t h = record { sfits = lt_of_le_of_lt (le_trans (mag-abs z) h.bnd) (ltb→lt a (2 ^ hbits w) t) }
  where
    mag-abs : (z : ℤ) → mag z ≤ nat_abs z
    mag-abs (pos n) = omega arith
    mag-abs (negsuc n) = omega arith

-- what fits a width fits a wider one; at two widths the test computes, `wider tt h`
pub wider : {v w : Width} {z : ℤ} → T (leb (2 ^ hbits v) (2 ^ hbits w)) → SFits v z → SFits w z
wider {v} {w} t h = record { sfits = lt_of_lt_of_le h.sfits (leb→le (2 ^ hbits v) (2 ^ hbits w) t) }

-- so a number in v bits keeps its value when it is cast to the wider w
module _ (w : Width) {v : Width} {z : ℤ} (narrow : T (leb (2 ^ hbits v) (2 ^ hbits w))) (fits : SFits v z) where
  pub widened : SFits w (to_z v (of_z v z))
  widened = rw (to_z-of_z fits) (wider {v = v} {w = w} narrow fits)

  pub widened_is : to_z w (of_z w (to_z v (of_z v z))) ≡ z
  widened_is = rw (to_z-of_z widened, to_z-of_z fits)

-- a small number fits; `N` is a numeral, as in `small-fits {N = 1024} tt h`
pub small-fits : {w : Width} {n N : ℕ} → T (ltb N (2 ^ hbits w)) → n ≤ N → SFits w (pos n)
small-fits {w} {n} t h = bnd-sfits t (bnd-of (pos n) h)

-- and its bits stand for itself
pub small_is : (w : Width) {n N : ℕ} → T (ltb N (2 ^ hbits w)) → n ≤ N → to_z w n ≡ pos n
small_is w t h = to_z_pos w (small-fits {w = w} t h).sfits

-- any two ends that fit: what lies between them fits
pub sfits-between : {w : Width} {lo hi z : ℤ} → SFits w lo → SFits w hi → lo ≤ℤ z → z ≤ℤ hi → SFits w z
sfits-between {w} {lo} {hi} {z} l h p q = record {
  sfits = mags lo z hi (2 ^ hbits w) l.sfits h.sfits p.le q.le;
}
  where
    mags : (lo z hi : ℤ) (H : ℕ) → mag lo < H → mag hi < H → T (le_z lo z) → T (le_z z hi) → mag z < H
    mags lo (pos n) (pos b) H l h p q = omega (arith, leb→le n b q)
    mags lo (pos n) (negsuc b) H l h p q = absurd q
    mags (pos a) (negsuc n) hi H l h p q = absurd p
    mags (negsuc a) (negsuc n) hi H l h p q = omega (arith, leb→le n a p)

-- ---- two's complement
-- for a proof about the bits of a number below 0: −1 − z is `mag z`, which is n for −(n + 1)
pub mag-below-zero : (z : ℤ) → lt_z z (pos 0) ≡ true → negsuc 0 -ℤ z ≡ pos (mag z)
mag-below-zero (pos n) h = let g : n < 0 = ltb-true n 0 h in absurd (omega arith)
mag-below-zero (negsuc n) h = simp (le-ltb (suc n) 1 (omega arith)) (ap pos (omega arith))
