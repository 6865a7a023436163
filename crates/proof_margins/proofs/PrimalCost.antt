-- Source document 004, Proposition 1(b): what the average of k steps costs at most (T9.6). It is Lemma 2(a) at ν = 0,
-- summed over the steps.
-- The source drops ‖M_k‖² at the end; here it is kept.
use Rattle.std.specs.Prelude.{◌≡◌, [], ◌∷◌, ℕ, suc, ◌<◌, ℤ, ◌+ℤ◌, ◌-ℤ◌, ◌*ℤ◌, ◌≤ℤ◌}
use Rattle.std.proofs.Common.{arith}
use Rattle.std.proofs.Math.IntN.{pos}
use Rattle.std.specs.Int.Signed.{≤ℤ_refl}
use Rattle.proof_integer.specs.Order.{≤ℤ-trans}
use Rattle.proof_integer.specs.Solve.{lit, ◌⊕◌, ◌⊖◌, ◌⊗◌, ◌≼◌, ◌⊢◌, omegaℤ}
use Rattle.proof_integer.specs.Sum.{sum_to-mono, sum_to-add, sum_to-neg, sum_to-scale, sum_to-const}
use Rattle.proof_integer.specs.Sum.{sum_to-telescope, sum_to-swap}
use Rattle.rules.specs.Notation.{sum_to}
use Rattle.rules.specs.Problem.{Problem, cost_of}
use Rattle.rules.specs.Step.{residual, dual_value}
use Rattle.rules.specs.Margins.{square}
use Rattle.proof_margins.proofs.FourFacts.{Steps}
use Rattle.proof_margins.proofs.IterateRelation.{norm², growth, growth-mono, from_zero}

module _ {P : Problem} {k : ℕ} {M x : ℕ → ℕ → ℤ} (steps : Steps P k M x) where
  abbrev p : ℤ
  p = pos P.numerator

  -- D·c·x_t
  abbrev cost : ℕ → ℤ
  cost t = pos P.scale *ℤ cost_of P (x t)

  -- D·c·Σ_t x_t, which is Σ_t D·c·x_t
  abbrev total-cost : ℤ
  total-cost = pos P.scale *ℤ cost_of P (λ j. sum_to k (λ t. x t j))

  total-is-sum : total-cost ≡ sum_to k (λ t. cost t)
  unfolding cost_of
  total-is-sum = simp (← sum_to-scale) (sum_to-swap P.materials k (λ j t. pos P.scale *ℤ (P.cost j *ℤ x t j)))

  -- Σ_t ‖residuals of step t‖²
  abbrev total-squares : ℤ
  total-squares = sum_to k (λ t. norm² P (residual P (x t)))

  -- a figure that no dual value exceeds, as q* in the source
  module _ (low : ℤ) (highest : (t : ℕ) → t < k → dual_value P (M t) (x t) ≤ℤ low) where
    -- step t: ‖M_t+1‖² − ‖M_t‖² ≤ 2·p·(low − D·c·x_t) + p²·‖residuals‖²
    one-step : (t : ℕ) → t < k → (norm² P (M (suc t)) -ℤ norm² P (M t)) ≤ℤ growth P (x t) low (cost t)
    one-step t l = ≤ℤ-trans (from_zero (steps t l)) (growth-mono P (x t) (highest t l) (≤ℤ_refl (cost t)))

    -- Proposition 1(b): 2·p·(D·c·Σ_t x_t − k·low) + ‖M_k‖² ≤ ‖M_0‖² + p²·Σ_t ‖residuals‖²
    pub proposition-1b : (pos 2 *ℤ p *ℤ (total-cost -ℤ pos k *ℤ low) +ℤ norm² P (M k))
        ≤ℤ (norm² P (M 0) +ℤ square p *ℤ total-squares)
    proposition-1b =
        move p total-cost (pos k *ℤ low) (square p *ℤ total-squares) (norm² P (M 0)) (norm² P (M k)) all-steps
      where
        -- all steps: ‖M_k‖² − ‖M_0‖² ≤ 2·p·(k·low − D·c·Σ_t x_t) + p²·Σ_t ‖residuals‖²
        all-steps : (norm² P (M k) -ℤ norm² P (M 0))
            ≤ℤ (pos 2 *ℤ p *ℤ (pos k *ℤ low -ℤ total-cost) +ℤ square p *ℤ total-squares)
        all-steps =
            rw total-is-sum
            (simp (sum_to-add, sum_to-neg, sum_to-scale k (pos 2 *ℤ p), sum_to-scale k (square p), sum_to-const) at
            (rw (sum_to-telescope k (λ t. norm² P (M t))) at (sum_to-mono k _ _ one-step)))

        move : (p C L G Q₀ Q : ℤ) → (Q -ℤ Q₀) ≤ℤ (pos 2 *ℤ p *ℤ (L -ℤ C) +ℤ G)
            → (pos 2 *ℤ p *ℤ (C -ℤ L) +ℤ Q) ≤ℤ (Q₀ +ℤ G)
        move =
            omegaℤ 6 (λ p C L G Q₀ Q. (Q ⊖ Q₀ ≼ lit 2 ⊗ p ⊗ (L ⊖ C) ⊕ G) ∷ [] ⊢ lit 2 ⊗ p ⊗ (C ⊖ L) ⊕ Q ≼ Q₀ ⊕ G)
            (omega arith)
