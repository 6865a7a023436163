-- Where a linear function Σ_j w_j·x_j is least over the bounds: at the ends that the signs of the w_j pick, and at
-- either end where w_j is 0.
-- For the reduced costs w_j this is the minimum of source document 004, equation (8), with any rule for ties.
use Rattle.std.specs.Prelude.{◌≡◌, refl, Bool, true, false, not, cond, [], ◌∷◌, ℕ, ◌<◌, T, ℤ, pos, ◌-ℤ◌, ◌*ℤ◌, ◌≤ℤ◌}
use Rattle.std.proofs.Common.{sym, arith}
use Rattle.std.specs.Int.Signed.{lt_z, lt_z_yes, lt_z_no}
use Rattle.proof_integer.specs.Order.{≡→≤ℤ, <ℤ→≤ℤ, gap-mul}
use Rattle.proof_integer.specs.Ring.{one-*ℤ}
use Rattle.proof_integer.specs.Solve.{lit, ◌⊖◌, ◌⊗◌, ◌≼◌, ◌⊢◌, omegaℤ}
use Rattle.proof_integer.specs.Sum.{sum_to-mono, sum_to-scale}
use Rattle.rules.specs.Notation.{sum_to}
use Rattle.rules.specs.Problem.{Problem, Feasible}

-- ---- one material
-- x is an end of the bounds l and u at which w·x is least
pub data Minimal (w l u x : ℤ) : Type 0 where
  most : w ≤ℤ pos 0 → x ≡ u → Minimal w l u x
  least : pos 0 ≤ℤ w → x ≡ l → Minimal w l u x

-- the end that a test picks, where it picks u only at w ≤ 0, and l only at w ≥ 0
pub choice-minimal : (test : Bool) (w l u : ℤ) → (T test → w ≤ℤ pos 0) → (T (not test) → pos 0 ≤ℤ w)
    → Minimal w l u (cond test u l)
choice-minimal true w l u nonpos nonneg = most (nonpos tt) refl
choice-minimal false w l u nonpos nonneg = least (nonneg tt) refl

-- as the test of T4.3 does: u where w is below 0, else l
pub rule-minimal : (w l u : ℤ) → Minimal w l u (cond (lt_z w (pos 0)) u l)
rule-minimal w l u = choice-minimal (lt_z w (pos 0)) w l u (λ t. <ℤ→≤ℤ (lt_z_yes t)) (λ t. lt_z_no t)

-- no amount y/d between the bounds has a smaller term: d·(w·x) ≤ w·y, by the product of two
-- differences that are not negative
falling : (w u d y : ℤ) → pos 0 ≤ℤ ((pos 0 -ℤ w) *ℤ (d *ℤ u -ℤ y)) → (d *ℤ (w *ℤ u)) ≤ℤ (w *ℤ y)
falling = omegaℤ 4 (λ w u d y. (lit 0 ≼ (lit 0 ⊖ w) ⊗ (d ⊗ u ⊖ y)) ∷ [] ⊢ d ⊗ (w ⊗ u) ≼ w ⊗ y) (omega arith)

rising : (w l d y : ℤ) → pos 0 ≤ℤ ((w -ℤ pos 0) *ℤ (y -ℤ d *ℤ l)) → (d *ℤ (w *ℤ l)) ≤ℤ (w *ℤ y)
rising = omegaℤ 4 (λ w l d y. (lit 0 ≼ (w ⊖ lit 0) ⊗ (y ⊖ d ⊗ l)) ∷ [] ⊢ d ⊗ (w ⊗ l) ≼ w ⊗ y) (omega arith)

term-least : {w l u x : ℤ} → Minimal w l u x → (d y : ℤ) → (d *ℤ l) ≤ℤ y → y ≤ℤ (d *ℤ u) → (d *ℤ (w *ℤ x)) ≤ℤ (w *ℤ y)
term-least {w} {u = u} (most nonpos e) d y above below = rw e (falling w u d y (gap-mul nonpos below))
term-least {w} {l} (least nonneg e) d y above below = rw e (rising w l d y (gap-mul nonneg above))

-- it lies between the bounds itself
pub minimal-between : {w l u x : ℤ} → Minimal w l u x → l ≤ℤ u → (l ≤ℤ x) × (x ≤ℤ u)
minimal-between (most _ e) h = (rw e h, ≡→≤ℤ e)
minimal-between (least _ e) h = (≡→≤ℤ (sym e), rw e h)

-- ---- all materials
-- the amounts x minimise Σ_j w_j·x_j
abbrev pub AllMinimal : Problem → (w x : ℕ → ℤ) → Type 0
AllMinimal P w x = (j : ℕ) → j < P.materials → Minimal (w j) (P.least j) (P.most j) (x j)

-- the point y/d keeps the bounds of every material
pub record WithinBounds (P : Problem) (d : ℤ) (y : ℕ → ℤ) : Type 0 where
  pub above : (j : ℕ) → j < P.materials → (d *ℤ P.least j) ≤ℤ y j
  pub below : (j : ℕ) → j < P.materials → y j ≤ℤ (d *ℤ P.most j)

pub feasible-within : {P : Problem} {d : ℤ} {y : ℕ → ℤ} → Feasible P d y → WithinBounds P d y
feasible-within f = record { above = f.above; below = f.below }

-- no point y/d within the bounds has a smaller sum: d·Σ_j w_j·x_j ≤ Σ_j w_j·y_j
pub sum-least : (P : Problem) (w x : ℕ → ℤ) → AllMinimal P w x → (d : ℤ) (y : ℕ → ℤ) → WithinBounds P d y
    → (d *ℤ sum_to P.materials (λ j. w j *ℤ x j)) ≤ℤ sum_to P.materials (λ j. w j *ℤ y j)
sum-least P w x minimal d y within =
    simp (← sum_to-scale) (sum_to-mono P.materials _ _ (λ j l.
    term-least (minimal j l) d (y j) (within.above j l) (within.below j l)))

-- and such amounts lie within the bounds themselves
pub minimal-within : {P : Problem} {w x : ℕ → ℤ}
    → ((j : ℕ) → j < P.materials → P.least j ≤ℤ P.most j) → AllMinimal P w x → WithinBounds P (pos 1) x
minimal-within ordered minimal = record {
  above = λ j l. rw one-*ℤ (minimal-between (minimal j l) (ordered j l)).0;
  below = λ j l. rw one-*ℤ (minimal-between (minimal j l) (ordered j l)).1;
}
