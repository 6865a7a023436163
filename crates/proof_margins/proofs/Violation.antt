-- Source document 004, Proposition 1(a): by how much the average of k steps can overstep a limit (T9.5). It is F2,
-- summed over the steps.
-- The source goes on to norms over all limits; here, as in its proof, each limit stands by itself.
use Rattle.std.specs.Prelude.{[], ◌∷◌, ℕ, suc, ◌<◌, ℤ, pos, ◌+ℤ◌, ◌-ℤ◌, ◌*ℤ◌, ◌≤ℤ◌}
use Rattle.std.proofs.Common.{arith}
use Rattle.proof_integer.specs.Order.{gap-mul, pos-nonneg}
use Rattle.proof_integer.specs.Ring.{one-*ℤ}
use Rattle.proof_integer.specs.Solve.{lit, ◌⊕◌, ◌⊖◌, ◌⊗◌, ◌≼◌, ◌⊢◌, omegaℤ}
use Rattle.proof_integer.specs.Sum.{sum_to-mono, sum_to-scale, sum_to-telescope}
use Rattle.rules.specs.Notation.{sum_to}
use Rattle.rules.specs.Problem.{Problem}
use Rattle.rules.specs.Step.{residual}
use Rattle.proof_margins.proofs.FourFacts.{Steps}

module _ {P : Problem} {k : ℕ} {M x : ℕ → ℕ → ℤ} (steps : Steps P k M x) where
  -- step t counted v_t times: p·Σ_t v_t·residual ≤ Σ_t v_t·(M_t+1 − M_t)
  -- The counts are any, for M-106, which counts step t t+1 times.
  pub weighted-residuals : (v : ℕ → ℤ) → ((t : ℕ) → t < k → pos 0 ≤ℤ v t) → (i : ℕ) → i < P.limits
      → (pos P.numerator *ℤ sum_to k (λ t. v t *ℤ residual P (x t) i)) ≤ℤ sum_to k (λ t. v t *ℤ (M (suc t) i -ℤ M t i))
  weighted-residuals v counts i l =
      simp (← sum_to-scale) (sum_to-mono k _ _ (λ t h.
      one-step (pos P.numerator) (v t) (residual P (x t) i) (M t i) (M (suc t) i)
      (gap-mul (counts t h) ((steps t h).up i l))))
    where
      one-step : (p v g M M' : ℤ) → pos 0 ≤ℤ ((v -ℤ pos 0) *ℤ (M' -ℤ (M +ℤ p *ℤ g)))
          → (p *ℤ (v *ℤ g)) ≤ℤ (v *ℤ (M' -ℤ M))
      one-step =
          omegaℤ 5 (λ p v g M M'. (lit 0 ≼ (v ⊖ lit 0) ⊗ (M' ⊖ (M ⊕ p ⊗ g))) ∷ [] ⊢ p ⊗ (v ⊗ g) ≼ v ⊗ (M' ⊖ M))
          (omega arith)

  -- Proposition 1(a), where every step counts once: p·Σ_t residual ≤ M_k − M_0
  pub proposition-1a : (i : ℕ) → i < P.limits
      → (pos P.numerator *ℤ sum_to k (λ t. residual P (x t) i)) ≤ℤ (M k i -ℤ M 0 i)
  proposition-1a i l =
      rw (sum_to-telescope k (λ t. M t i)) at
      (simp one-*ℤ at (weighted-residuals (λ _. pos 1) (λ _ _. pos-nonneg 1) i l))
