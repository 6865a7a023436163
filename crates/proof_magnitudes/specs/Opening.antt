-- What multipliers of 0 make of a step's figures.
use Rattle.std.specs.Prelude.{◌≡◌, refl, true, ℕ, zero, suc, ◌*◌, ◌<◌, ◌≤◌, ℤ, negsuc, neg_ℤ, ◌+ℤ◌, ◌*ℤ◌}
use Rattle.std.proofs.Math.Path.{sym, ap}
use Rattle.std.proofs.Common.{◌∙◌, zero-le, suc-mul, arith, le-ltb}
use Rattle.std.proofs.Math.IntN.{pos, +ℤ_idr, zero-*ℤ}
use Rattle.std.specs.Int.Signed.{lt_z}
use Rattle.proof_integer.specs.Sum.{sum_to-none, sum_to-cong}
use Rattle.rules.specs.Notation.{sum_to}
use Rattle.rules.specs.Problem.{Problem, cost_of}
use Rattle.rules.specs.Step.{dual_value}

-- a cost times D has the sign of the cost
pub same_sign : (D : ℕ) (c : ℤ) → 1 ≤ D → lt_z (pos D *ℤ c) (pos 0) ≡ lt_z c (pos 0)
same_sign zero c h = absurd (omega arith)
same_sign (suc D) (pos n) h = le-ltb (suc D * n) 0 zero-le ∙ sym (le-ltb n 0 zero-le)
same_sign (suc D) (negsuc n) h = below (suc D * suc n) (rw suc-mul (omega arith))
  where
    below : (m : ℕ) → 1 ≤ m → lt_z (neg_ℤ (pos m)) (pos 0) ≡ true
    below zero k = absurd (omega arith)
    below (suc m) k = refl

module _ (P : Problem) (M : ℕ → ℤ) (at_zero : (i : ℕ) → i < P.limits → M i ≡ pos 0) where
  -- multipliers of 0 add nothing
  pub nothing-added : (z : ℤ) (f : ℕ → ℤ) → z +ℤ sum_to P.limits (λ i. M i *ℤ f i) ≡ z
  nothing-added z f =
      ap (λ s. z +ℤ s) (sum_to-cong P.limits _ (λ _. pos 0) (λ i l. rw (at_zero i l) (zero-*ℤ (f i)))
      ∙ sum_to-none P.limits)
      ∙ +ℤ_idr z

  -- so that the dual value is D·c·x
  pub value-at-zero : (x : ℕ → ℤ) → dual_value P M x ≡ pos P.scale *ℤ cost_of P x
  unfolding dual_value
  value-at-zero x = nothing-added _ _
