-- TASK.md, T1: materials at a cost within bounds, the limits on them, and the recipes that keep both. All figures are
-- whole numbers (T1.1).
use Rattle.std.specs.Prelude.{ℕ, ◌<◌, ℤ, pos, ◌*ℤ◌, ◌≤ℤ◌, ◌<ℤ◌}
use Rattle.rules.specs.Notation.{sum_to}

-- T1.2, T1.3: n materials and m limits, the step length p/D (T2.3), the figures of material j and limit i, and where
-- the method begins (T4.1)
pub record Problem : Type 0 where
  -- n
  pub materials : ℕ
  -- m
  pub limits : ℕ
  -- p, the step numerator
  pub numerator : ℕ
  -- D, the scale
  pub scale : ℕ
  -- c_j
  pub cost : ℕ → ℤ
  -- l_j, the least amount
  pub least : ℕ → ℤ
  -- u_j, the most amount
  pub most : ℕ → ℤ
  -- a_ij
  pub coefficient : ℕ → ℕ → ℤ
  -- b_i
  pub rhs : ℕ → ℤ
  -- s_i ("start"), the multiplier of limit i before any step
  pub starting_multiplier : ℕ → ℤ

module _ (P : Problem) where
  -- T1.4, the cost of amounts x: Σ_j c_j·x_j
  unfoldable pub cost_of : (ℕ → ℤ) → ℤ
  cost_of x = sum_to P.materials (λ j. P.cost j *ℤ x j)

  -- T1.3, what limit i keeps at b_i or below: Σ_j a_ij·x_j
  unfoldable pub load_of : (ℕ → ℤ) → ℕ → ℤ
  load_of x i = sum_to P.materials (λ j. P.coefficient i j *ℤ x j)

-- T1.4, T1.5, a feasible recipe ("lawful"), here a feasible point: whole numbers y over the divisor d, with
-- l_j ≤ y_j/d ≤ u_j and Σ_j a_ij·y_j/d ≤ b_i, multiplied out.
pub record Feasible (P : Problem) (d : ℤ) (y : ℕ → ℤ) : Type 0 where
  pub divisor : pos 0 <ℤ d
  pub above : (j : ℕ) → j < P.materials → (d *ℤ P.least j) ≤ℤ y j
  pub below : (j : ℕ) → j < P.materials → y j ≤ℤ (d *ℤ P.most j)
  pub within : (i : ℕ) → i < P.limits → load_of P y i ≤ℤ (d *ℤ P.rhs i)

-- there is none
abbrev pub NoneFeasible : Problem → Type 0
NoneFeasible P = (d : ℤ) (y : ℕ → ℤ) → Feasible P d y → ⊥
