-- The Lagrangian of source document 004, equation (4): the cost, and each limit's excess times its multiplier.
-- F1: a step's dual value is its minimum over the bounds.
use Rattle.std.specs.Prelude.{◌≡◌, [], ◌∷◌, ℕ, ℤ, pos, ◌+ℤ◌, ◌-ℤ◌, ◌*ℤ◌, ◌≤ℤ◌}
use Rattle.std.proofs.Common.{arith}
use Rattle.std.proofs.Math.IntN.{+ℤ_assoc}
use Rattle.proof_integer.specs.Ring.{*ℤ--ℤ, +ℤ-*ℤ, *ℤ-assoc, *ℤ-left-comm, one-*ℤ}
use Rattle.proof_integer.specs.Solve.{lit, ◌⊖◌, ◌⊗◌, ◌≼◌, ◌⊢◌, omegaℤ}
use Rattle.proof_integer.specs.Sum.{sum_to-add, sum_to-sub, sum_to-scale, sum_to-scale-r, sum_to-swap}
use Rattle.rules.specs.Notation.{sum_to}
use Rattle.rules.specs.Problem.{Problem, cost_of, load_of}
use Rattle.rules.specs.Step.{reduced_cost, residual, dual_value}
use Rattle.proof_magnitudes.specs.Minimal.{AllMinimal, WithinBounds, sum-least}

module _ (P : Problem) where
  -- the Lagrangian at the multipliers M/D and the point y/d, times D and d: D·c·y + Σ_i M_i·(a_i·y − d·b_i)
  unfoldable pub lagrangian : (M : ℕ → ℤ) (d : ℤ) (y : ℕ → ℤ) → ℤ
  lagrangian M d y = pos P.scale *ℤ cost_of P y +ℤ sum_to P.limits (λ i. M i *ℤ (load_of P y i -ℤ d *ℤ P.rhs i))

  -- at whole amounts, d = 1, it is what `rules` calls their dual value
  pub at-whole : (M x : ℕ → ℤ) → lagrangian M (pos 1) x ≡ dual_value P M x
  unfolding lagrangian dual_value residual
  at-whole M x = simp one-*ℤ

  -- two sums in the other order: Σ_i M_i·(a_i·y) = Σ_j (Σ_i M_i·a_ij)·y_j
  loads-by-materials : (M y : ℕ → ℤ)
      → sum_to P.limits (λ i. M i *ℤ load_of P y i)
      ≡ sum_to P.materials (λ j. sum_to P.limits (λ i. M i *ℤ P.coefficient i j) *ℤ y j)
  unfolding load_of
  loads-by-materials M y =
      simp (← sum_to-scale, ← sum_to-scale-r, *ℤ-assoc)
      (sum_to-swap P.limits P.materials (λ i j. M i *ℤ (P.coefficient i j *ℤ y j)))

  -- by materials the Lagrangian is Σ_j w_j·y_j − d·Σ_i M_i·b_i, with the reduced costs w_j
  by-materials : (M : ℕ → ℤ) (d : ℤ) (y : ℕ → ℤ)
      → lagrangian M d y
      ≡ sum_to P.materials (λ j. reduced_cost P M j *ℤ y j) -ℤ d *ℤ sum_to P.limits (λ i. M i *ℤ P.rhs i)
  unfolding lagrangian reduced_cost cost_of
  by-materials M d y =
      simp (*ℤ--ℤ, sum_to-sub, loads-by-materials, +ℤ-*ℤ, sum_to-add, ← sum_to-scale, *ℤ-assoc, *ℤ-left-comm, +ℤ_assoc)

  -- F1, the minimum: d·V ≤ D·c·y + Σ_i M_i·(a_i·y − d·b_i) at every point y/d within the bounds
  pub minimum : (M x : ℕ → ℤ) → AllMinimal P (reduced_cost P M) x
      → (d : ℤ) (y : ℕ → ℤ) → WithinBounds P d y → (d *ℤ dual_value P M x) ≤ℤ lagrangian M d y
  minimum M x minimal d y within =
      rw (← at-whole M x, by-materials M (pos 1) x, by-materials M d y)
      (shift d _ _ _ (sum-least P (reduced_cost P M) x minimal d y within))
    where
      shift : (d X Y B : ℤ) → (d *ℤ X) ≤ℤ Y → (d *ℤ (X -ℤ pos 1 *ℤ B)) ≤ℤ (Y -ℤ d *ℤ B)
      shift = omegaℤ 4 (λ d X Y B. (d ⊗ X ≼ Y) ∷ [] ⊢ d ⊗ (X ⊖ lit 1 ⊗ B) ≼ Y ⊖ d ⊗ B) (omega arith)
