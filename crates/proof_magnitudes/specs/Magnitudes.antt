-- How large the figures of a step become: the statement that each of them, and every sum and product that leads to it,
-- fits 64 signed bits (T5.6), and what costs and residuals need for it.
-- The step is any with multipliers of at most 2³⁰ in size and amounts of at most 1,000.
use Rattle.std.specs.Prelude.{ℕ, ◌*◌, ◌^◌, ◌<◌, ◌≤◌, T, ltb, ℤ, pos, ◌+ℤ◌, ◌*ℤ◌}
use Rattle.std.proofs.Common.{le_refl, le_trans, lt_of_lt_of_le, arith, lt→ltb, SFits}
use Rattle.std.specs.Int.Signed.{le_z_yes}
use Rattle.std.specs.Int.{w64}
use Rattle.proof_integer.specs.Order.{≤ℤ-trans}
use Rattle.proof_integer.specs.Range.{Bnd, ◌b-◌, ◌b*◌, bnd-of, bnd-sfits, bnd-between}
use Rattle.proof_integer.specs.Sum.{sum_to-bnd}
use Rattle.rules.specs.Notation.{sum_to}
use Rattle.rules.specs.Problem.{Problem, cost_of, load_of}
use Rattle.rules.specs.Step.{reduced_cost, residual, dual_value}
use Rattle.proof_magnitudes.specs.Minimal.{minimal-between, AllMinimal}
use Rattle.proof_magnitudes.specs.CostRange.{greatest_end}
use Rattle.proof_magnitudes.specs.Accepted.{Accepted}

-- |z| ≤ B, and z fits 64 signed bits
pub record Fits64 (z : ℤ) (B : ℕ) : Type 0 where
  pub magnitude : Bnd z B
  pub fits : SFits w64 z

-- as it does where B is below 2⁶³
pub fit : {z : ℤ} {B : ℕ} → T (ltb B (2 ^ 63)) → Bnd z B → Fits64 z B
fit t h = record { magnitude = h; fits = bnd-sfits t h }

-- The records below are the statement of T5.6: every figure has its field, whether or not a proof of the code asks for
-- it. A sum stands with every number of its terms, from none to all.

-- The cost of amounts x of at most B: its terms, their sums, and D times the whole.
pub record CostMagnitudes (P : Problem) (x : ℕ → ℤ) (B : ℕ) : Type 0 where
  pub term : (j : ℕ) → j < P.materials → Fits64 (P.cost j *ℤ x j) (10000 * B)
  pub sum : (n : ℕ) → n ≤ P.materials → Fits64 (sum_to n (λ j. P.cost j *ℤ x j)) (32 * (10000 * B))
  pub scaled : Fits64 (pos P.scale *ℤ cost_of P x) (1024 * (32 * (10000 * B)))

-- What a step forms from the multipliers M and the amounts x.
pub record StepMagnitudes (P : Problem) (M x : ℕ → ℤ) : Type 0 where
  -- T4.2, the reduced cost of material j: D·c_j + Σ_i M_i·a_ij, with the sum by itself and added to D·c_j
  pub scaled-cost : (j : ℕ) → j < P.materials → Fits64 (pos P.scale *ℤ P.cost j) 10240000
  pub reduced-term : (i j : ℕ) → i < P.limits → j < P.materials → Fits64 (M i *ℤ P.coefficient i j) 1073741824000
  pub reduced-sum : (m j : ℕ) → m ≤ P.limits → j < P.materials
      → Fits64 (sum_to m (λ i. M i *ℤ P.coefficient i j)) 17179869184000
  pub reduced-part : (m j : ℕ) → m ≤ P.limits → j < P.materials
      → Fits64 (pos P.scale *ℤ P.cost j +ℤ sum_to m (λ i. M i *ℤ P.coefficient i j)) 17179879424000
  pub reduced-cost : (j : ℕ) → j < P.materials → Fits64 (reduced_cost P M j) 17179879424000
  -- T4.3, the amount of material j
  pub amount : (j : ℕ) → j < P.materials → Fits64 (x j) 1000
  -- T4.4, the residual of limit i: Σ_j a_ij·x_j − b_i
  pub load-term : (i j : ℕ) → i < P.limits → j < P.materials → Fits64 (P.coefficient i j *ℤ x j) 1000000
  pub load-sum : (i n : ℕ) → i < P.limits → n ≤ P.materials
      → Fits64 (sum_to n (λ j. P.coefficient i j *ℤ x j)) 32000000
  pub one-residual : (i : ℕ) → i < P.limits → Fits64 (residual P x i) 64000000
  -- T4.5, the dual value: D·cost + Σ_i M_i·residual_i, with the sum by itself and added to D·cost
  pub step-cost : CostMagnitudes P x 1000
  pub dual-term : (i : ℕ) → i < P.limits → Fits64 (M i *ℤ residual P x i) 68719476736000000
  pub dual-sum : (m : ℕ) → m ≤ P.limits → Fits64 (sum_to m (λ i. M i *ℤ residual P x i)) 1099511627776000000
  pub dual-part : (m : ℕ) → m ≤ P.limits
      → Fits64 (pos P.scale *ℤ cost_of P x +ℤ sum_to m (λ i. M i *ℤ residual P x i)) 1099511955456000000
  pub dual-value : Fits64 (dual_value P M x) 1099511955456000000
  -- T4.6, the greatest cost
  pub greatest-cost : CostMagnitudes P (greatest_end P) 1000
  -- T4.7, the multiplier of limit i before it is cut at 0: M_i + p·residual_i
  pub scaled-residual : (i : ℕ) → i < P.limits → Fits64 (pos P.numerator *ℤ residual P x i) 65536000000
  pub uncut : (i : ℕ) → i < P.limits → Fits64 (M i +ℤ pos P.numerator *ℤ residual P x i) 66609741824

-- a sum of the first n of some terms, of which there are at most N, each at most B
pub over : {N B terms : ℕ} → terms ≤ N → (f : ℕ → ℤ) → ((j : ℕ) → j < terms → Bnd (f j) B)
    → (n : ℕ) → n ≤ terms → Bnd (sum_to n f) (N * B)
over few f h n l = sum_to-bnd n f (le_trans l few) (λ j k. h j (lt_of_lt_of_le k l))

module _ {P : Problem} {k : ℕ} (a : Accepted P k) where
  pub scale-bnd : Bnd (pos P.scale) 1024
  scale-bnd = bnd-of (pos P.scale) a.scale_small

  pub numerator-bnd : Bnd (pos P.numerator) 1024
  numerator-bnd = bnd-of (pos P.numerator) a.numerator-small

  -- ---- amounts that minimise anything lie between the bounds, and so are at most 1,000
  pub amounts-bnd : {w x : ℕ → ℤ} → AllMinimal P w x → (j : ℕ) → j < P.materials → Bnd (x j) 1000
  amounts-bnd minimal j l =
      let (above, below) = minimal-between (minimal j l) (a.ordered j l) in
      bnd-between (≤ℤ-trans (le_z_yes tt) (≤ℤ-trans (a.least-sign j l) above)) (≤ℤ-trans below (a.most-in j l))

  -- ---- costs, of amounts up to those that 4,096 steps add up to
  pub cost-magnitudes : {B : ℕ} (x : ℕ → ℤ) → B ≤ 4096000 → ((j : ℕ) → j < P.materials → Bnd (x j) B)
      → CostMagnitudes P x B
  unfolding cost_of
  cost-magnitudes {B} x few x-in = record {
    term = λ j l. fit (lt→ltb (10000 * B) (2 ^ 63) (omega arith)) (terms j l);
    sum = λ n l. fit (lt→ltb (32 * (10000 * B)) (2 ^ 63) (omega arith)) (over a.materials-few _ terms n l);
    scaled =
        fit (lt→ltb (1024 * (32 * (10000 * B))) (2 ^ 63) (omega arith))
        (scale-bnd b* over a.materials-few _ terms P.materials (le_refl _));
  }
    where
      terms : (j : ℕ) → j < P.materials → Bnd (P.cost j *ℤ x j) (10000 * B)
      terms j l = a.cost-in j l b* x-in j l

  -- ---- residuals, of amounts up to 1,000
  pub residual-bnd : (x : ℕ → ℤ) → ((j : ℕ) → j < P.materials → Bnd (x j) 1000)
      → (i : ℕ) → i < P.limits → Bnd (residual P x i) 64000000
  unfolding residual load_of
  residual-bnd x x-in i l =
      over a.materials-few _ (λ j k. a.coefficient-in i l j k b* x-in j k) P.materials (le_refl _)
      b- a.rhs-in i l
