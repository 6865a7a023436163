-- ℤ is an ordered ring: how ≤ and < go through sums, products and squares, and the larger of two integers.
-- Name a law where one step is wanted. A linear goal is shorter by Parts, and one with products by `omegaℤ` of Solve.
use Rattle.std.specs.Prelude.{◌≡◌, ◌↔◌, ◌⊎◌, Bool, true, false, not, cond, ℕ, suc, ◌*◌, ◌≤◌, T, ℤ, pos, negsuc, neg_ℤ}
use Rattle.std.specs.Prelude.{◌+ℤ◌, ◌-ℤ◌, ◌*ℤ◌, ◌≤ℤ◌, ◌<ℤ◌}
use Rattle.std.proofs.Common.{inl, inr, zero-le, arith, T_not, le→leb}
use Rattle.std.specs.Int.Signed.{le_z, lt_z, le_z_yes, lt_z_yes, lt_z_no, ≤ℤ_refl}
use Rattle.rules.specs.Notation.{maxℤ}
use Rattle.proof_integer.specs.Parts.{difs, as-dif, le→parts, lt→parts, parts→le}
use Rattle.proof_integer.specs.Ring.{*ℤ--ℤ}

-- ---- the two orders
pub ≤ℤ-trans : {x y z : ℤ} → x ≤ℤ y → y ≤ℤ z → x ≤ℤ z
≤ℤ-trans h k = parts→le (omega (arith, le→parts))

pub ≡→≤ℤ : {x y : ℤ} → x ≡ y → x ≤ℤ y
≡→≤ℤ {x} {y} h = rw h (≤ℤ_refl y)

pub <ℤ→≤ℤ : {x y : ℤ} → x <ℤ y → x ≤ℤ y
<ℤ→≤ℤ h = parts→le (omega (arith, lt→parts))

-- x < y is x + 1 ≤ y
pub <ℤ-suc : (x y : ℤ) → (x <ℤ y) ↔ ((x +ℤ pos 1) ≤ℤ y)
<ℤ-suc x y = rw (as-dif x, as-dif y) (simp difs (omega arith))

≤ℤ-total : (x y : ℤ) → (x ≤ℤ y) ⊎ (y <ℤ x)
≤ℤ-total x y = go (lt_z y x) (λ t. lt_z_yes t) (λ t. lt_z_no t)
  where
    go : (b : Bool) → (T b → y <ℤ x) → (T (not b) → x ≤ℤ y) → (x ≤ℤ y) ⊎ (y <ℤ x)
    go true f g = inr (f tt)
    go false f g = inl (g tt)

-- ---- naturals as integers
pos-le : {m n : ℕ} → m ≤ n → pos m ≤ℤ pos n
pos-le {m} {n} h = le_z_yes (le→leb m n h)

pub pos-nonneg : (n : ℕ) → pos 0 ≤ℤ pos n
pos-nonneg n = pos-le zero-le

-- ---- sums and differences
pub +ℤ-mono : {a b c d : ℤ} → a ≤ℤ b → c ≤ℤ d → (a +ℤ c) ≤ℤ (b +ℤ d)
+ℤ-mono {a} {b} {c} {d} = rw (as-dif a, as-dif b, as-dif c, as-dif d) (simp difs (omega arith))

pub -ℤ-mono : {a b c d : ℤ} → a ≤ℤ b → d ≤ℤ c → (a -ℤ c) ≤ℤ (b -ℤ d)
-ℤ-mono {a} {b} {c} {d} = rw (as-dif a, as-dif b, as-dif c, as-dif d) (simp difs (omega arith))

-- negation turns ≤ round
pub negℤ-≤ℤ : (x y : ℤ) → (neg_ℤ x ≤ℤ neg_ℤ y) ↔ (y ≤ℤ x)
negℤ-≤ℤ x y = rw (as-dif x, as-dif y) (simp difs (omega arith))

-- x ≤ y says that y − x is not negative
sub-nonneg : (x y : ℤ) → (x ≤ℤ y) ↔ (pos 0 ≤ℤ (y -ℤ x))
sub-nonneg x y = rw (as-dif x, as-dif y) (simp difs (omega arith))

-- ---- products
*ℤ-nonneg : {x y : ℤ} → pos 0 ≤ℤ x → pos 0 ≤ℤ y → pos 0 ≤ℤ (x *ℤ y)
*ℤ-nonneg {x = pos a} {y = pos b} h k = pos-nonneg (a * b)
*ℤ-nonneg {x = pos a} {y = negsuc b} h k = absurd k.le
*ℤ-nonneg {x = negsuc a} {y = y} h k = absurd h.le

-- a factor that is not negative
pub *ℤ-mono-l : {x y c : ℤ} → pos 0 ≤ℤ c → x ≤ℤ y → (c *ℤ x) ≤ℤ (c *ℤ y)
*ℤ-mono-l {x} {y} {c} hc h = (sub-nonneg (c *ℤ x) (c *ℤ y)).1 (rw *ℤ--ℤ at (*ℤ-nonneg hc ((sub-nonneg x y).0 h)))

-- ---- facts about products to hand to `omegaℤ`, which by itself knows nothing of a product's sign
pub square-nonneg : (x : ℤ) → pos 0 ≤ℤ (x *ℤ x)
square-nonneg (pos n) = pos-nonneg (n * n)
square-nonneg (negsuc n) = pos-nonneg (suc n * suc n)

pub gap-mul : {a b c d : ℤ} → a ≤ℤ b → c ≤ℤ d → pos 0 ≤ℤ ((b -ℤ a) *ℤ (d -ℤ c))
gap-mul {a} {b} {c} {d} h k = *ℤ-nonneg ((sub-nonneg a b).0 h) ((sub-nonneg c d).0 k)

-- ---- the larger of two
-- every fact of a maximum, by cases
pub max_cases : (x y : ℤ) (G : ℤ → Type 0) → (x ≤ℤ y → G y) → (y ≤ℤ x → G x) → G (maxℤ x y)
unfolding maxℤ
max_cases x y G f g = go (le_z x y) (λ t. le_z_yes t) (λ t. otherwise t (≤ℤ-total x y))
  where
    otherwise : T (not (le_z x y)) → (x ≤ℤ y) ⊎ (y <ℤ x) → y ≤ℤ x
    otherwise t (inl h) = absurd (T_not (le_z x y) t h.le)
    otherwise t (inr h) = <ℤ→≤ℤ h

    go : (b : Bool) → (T b → x ≤ℤ y) → (T (not b) → y ≤ℤ x) → G (cond b y x)
    go true p q = f (p tt)
    go false p q = g (q tt)

pub max-left : (x y : ℤ) → x ≤ℤ maxℤ x y
max-left x y = max_cases x y (λ m. x ≤ℤ m) (λ h. h) (λ h. ≤ℤ_refl x)

pub max-right : (x y : ℤ) → y ≤ℤ maxℤ x y
max-right x y = max_cases x y (λ m. y ≤ℤ m) (λ h. ≤ℤ_refl y) (λ h. h)

pub max_least : {x y z : ℤ} → x ≤ℤ z → y ≤ℤ z → maxℤ x y ≤ℤ z
max_least {x} {y} {z} h k = max_cases x y (λ m. m ≤ℤ z) (λ _. k) (λ _. h)
