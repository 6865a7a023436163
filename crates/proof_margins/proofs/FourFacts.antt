-- What the proofs use of a step: four facts about the multipliers M that enter it, its amounts x, and the multipliers
-- M' that leave it.
-- A step by (7) and (8) of source document 004 has them, whichever end it takes at a reduced cost of 0, and whatever
-- multipliers, none of them negative, it enters with.
use Rattle.std.specs.Prelude.{◌≡◌, ℕ, suc, ◌<◌, ℤ, pos, ◌+ℤ◌, ◌*ℤ◌, ◌≤ℤ◌}
use Rattle.std.specs.Int.Signed.{≤ℤ_refl}
use Rattle.proof_integer.specs.Order.{max_cases, max-right, square-nonneg}
use Rattle.rules.specs.Notation.{maxℤ}
use Rattle.rules.specs.Problem.{Problem}
use Rattle.rules.specs.Step.{reduced_cost, residual, dual_value, moved}
use Rattle.rules.specs.Margins.{square}
use Rattle.proof_magnitudes.specs.Minimal.{AllMinimal, WithinBounds}
use Rattle.proof_margins.specs.Lagrangian.{lagrangian, minimum}

pub record FourFacts (P : Problem) (M x M' : ℕ → ℤ) : Type 0 where
  -- F1, the minimum: d·V ≤ the Lagrangian at M and at every point y/d within the bounds
  pub minimum : (d : ℤ) (y : ℕ → ℤ) → WithinBounds P d y → (d *ℤ dual_value P M x) ≤ℤ lagrangian P M d y
  -- F2, the move up: M + p·residual ≤ M'
  pub up : (i : ℕ) → i < P.limits → (M i +ℤ pos P.numerator *ℤ residual P x i) ≤ℤ M' i
  -- F3, the size of the move: M'² ≤ (M + p·residual)²
  pub size : (i : ℕ) → i < P.limits → square (M' i) ≤ℤ square (M i +ℤ pos P.numerator *ℤ residual P x i)
  -- F4, the sign: 0 ≤ M
  pub sign : (i : ℕ) → i < P.limits → pos 0 ≤ℤ M i

-- k steps one after the other: M t enters step t, x t are its amounts, and M k is left at the end
abbrev pub Steps : (P : Problem) (k : ℕ) (M x : ℕ → ℕ → ℤ) → Type 0
Steps P k M x = (t : ℕ) → t < k → FourFacts P (M t) (x t) (M (suc t))

pub four-facts : (P : Problem) (M x M' : ℕ → ℤ)
    → AllMinimal P (reduced_cost P M) x
    → ((i : ℕ) → i < P.limits → pos 0 ≤ℤ M i)
    → ((i : ℕ) → i < P.limits → M' i ≡ moved P M (residual P x) i)
    → FourFacts P M x M'
unfolding moved
four-facts P M x M' minimal sign move = record {
  minimum = minimum P M x minimal;
  up = λ i l. rw (move i l) (max-right (pos 0) (M i +ℤ pos P.numerator *ℤ residual P x i));
  size = λ i l. rw (move i l) (cut-size (M i +ℤ pos P.numerator *ℤ residual P x i));
  sign = sign;
}
  where
    -- cut at 0, a number does not grow in size
    cut-size : (z : ℤ) → square (maxℤ (pos 0) z) ≤ℤ square z
    cut-size z = max_cases _ z (λ m. square m ≤ℤ square z) (λ _. ≤ℤ_refl (square z)) (λ _. square-nonneg z)
