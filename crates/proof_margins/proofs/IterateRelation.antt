-- Source document 004, Lemma 2(a), the basic iterate relation: how far from any ν ≥ 0 the multipliers can be after a
-- step.
use Rattle.std.specs.Prelude.{◌≡◌, refl, [], ◌∷◌, ℕ, ◌*◌, ◌<◌, ℤ, pos, ◌+ℤ◌, ◌-ℤ◌, ◌*ℤ◌, ◌≤ℤ◌}
use Rattle.std.proofs.Common.{arith}
use Rattle.std.proofs.Math.IntN.{+ℤ_idr}
use Rattle.std.specs.Int.Signed.{≤ℤ_refl}
use Rattle.proof_integer.specs.Order.{≤ℤ-trans, +ℤ-mono, -ℤ-mono, *ℤ-mono-l, gap-mul, pos-nonneg}
use Rattle.proof_integer.specs.Ring.{one-*ℤ}
use Rattle.proof_integer.specs.Solve.{lit, ◌⊕◌, ◌⊖◌, ◌⊗◌, ◌≋◌, ◌≼◌, ◌⊢◌, ringℤ, omegaℤ}
use Rattle.proof_integer.specs.Sum.{sum_to-mono, sum_to-add, sum_to-neg, sum_to-scale}
use Rattle.rules.specs.Notation.{sum_to}
use Rattle.rules.specs.Problem.{Problem, cost_of}
use Rattle.rules.specs.Step.{residual, dual_value}
use Rattle.rules.specs.Margins.{square}
use Rattle.proof_magnitudes.specs.Minimal.{WithinBounds}
use Rattle.proof_magnitudes.specs.Opening.{value-at-zero}
use Rattle.proof_margins.specs.Lagrangian.{at-whole}
use Rattle.proof_margins.proofs.FourFacts.{FourFacts}

-- ‖v‖², over the limits
abbrev pub norm² : Problem → (ℕ → ℤ) → ℤ
norm² P v = sum_to P.limits (λ i. square (v i))

-- what ‖M − ν‖² grows by in a step, at most: 2·p·(V − L) + p²·‖residuals‖²
abbrev pub growth : (P : Problem) (x : ℕ → ℤ) (value L : ℤ) → ℤ
growth P x value L =
    pos 2 *ℤ pos P.numerator *ℤ (value -ℤ L) +ℤ square (pos P.numerator) *ℤ norm² P (residual P x)

-- it rises with V, and falls with L
pub growth-mono : (P : Problem) (x : ℕ → ℤ) {v v' L L' : ℤ} → v ≤ℤ v' → L' ≤ℤ L → growth P x v L ≤ℤ growth P x v' L'
growth-mono P x h k = +ℤ-mono (*ℤ-mono-l (pos-nonneg (2 * P.numerator)) (-ℤ-mono h k)) (≤ℤ_refl _)

-- one limit, by F2 and F3: (M' − ν)² − (M − ν)² ≤ 2·p·(M·g − ν·g) + p²·g²
one-limit : (p M g M' ν : ℤ) → (M +ℤ p *ℤ g) ≤ℤ M' → square M' ≤ℤ square (M +ℤ p *ℤ g) → pos 0 ≤ℤ ν
    → (square (M' -ℤ ν) -ℤ square (M -ℤ ν)) ≤ℤ (pos 2 *ℤ p *ℤ (M *ℤ g -ℤ ν *ℤ g) +ℤ square p *ℤ square g)
one-limit p M g M' ν up size sign =
    omegaℤ 5 (λ p M g M' ν.
    (lit 0 ≼ (M' ⊖ (M ⊕ p ⊗ g)) ⊗ (ν ⊖ lit 0)) ∷ (M' ⊗ M' ≼ (M ⊕ p ⊗ g) ⊗ (M ⊕ p ⊗ g)) ∷ []
    ⊢ (M' ⊖ ν) ⊗ (M' ⊖ ν) ⊖ (M ⊖ ν) ⊗ (M ⊖ ν) ≼ lit 2 ⊗ p ⊗ (M ⊗ g ⊖ ν ⊗ g) ⊕ p ⊗ p ⊗ (g ⊗ g)) (omega arith)
    p M g M' ν (gap-mul up sign) size

module _ {P : Problem} {M x M' : ℕ → ℤ} (facts : FourFacts P M x M') where
  -- Lemma 2(a), where for q(ν) stands L, the Lagrangian at ν and the step's own amounts, which is at least q(ν):
  -- ‖M' − ν‖² − ‖M − ν‖² ≤ 2·p·(V − L) + p²·‖residuals‖²
  pub iterate-relation : (ν : ℕ → ℤ) → ((i : ℕ) → i < P.limits → pos 0 ≤ℤ ν i)
      → (norm² P (λ i. M' i -ℤ ν i) -ℤ norm² P (λ i. M i -ℤ ν i)) ≤ℤ growth P x (dual_value P M x) (dual_value P ν x)
  unfolding dual_value
  iterate-relation ν sign =
      rw cancel (simp (sum_to-add, sum_to-neg, sum_to-scale) at (sum_to-mono P.limits _ _ (λ i l.
      one-limit (pos P.numerator) (M i) (residual P x i) (M' i) (ν i) (facts.up i l) (facts.size i l) (sign i l))))
    where
      cancel : (C A B : ℤ) → (C +ℤ A) -ℤ (C +ℤ B) ≡ A -ℤ B
      cancel = ringℤ 3 (λ C A B. (C ⊕ A) ⊖ (C ⊕ B) ≋ A ⊖ B) tt

  -- from ν = 0, where the Lagrangian is D·c·x: ‖M'‖² − ‖M‖² ≤ 2·p·(V − D·c·x) + p²·‖residuals‖²
  pub from_zero : (norm² P M' -ℤ norm² P M) ≤ℤ growth P x (dual_value P M x) (pos P.scale *ℤ cost_of P x)
  from_zero =
      simp (value-at-zero P (λ _. pos 0) (λ _ _. refl), +ℤ_idr) at
      (iterate-relation (λ _. pos 0) (λ _ _. ≤ℤ_refl (pos 0)))

  -- Lemma 2(a) as the source has it, though with ‖M − ν‖² on this side: with q(ν), the dual value of a step that enters
  -- with ν, for amounts within the bounds. The theorem goes by `from_zero`, and not by this.
  -- ‖M' − ν‖² − ‖M − ν‖² ≤ 2·p·(q(M) − q(ν)) + p²·‖residuals‖²
  pub lemma-2a : {ν xν ν' : ℕ → ℤ} → FourFacts P ν xν ν' → WithinBounds P (pos 1) x
      → (norm² P (λ i. M' i -ℤ ν i) -ℤ norm² P (λ i. M i -ℤ ν i)) ≤ℤ growth P x (dual_value P M x) (dual_value P ν xν)
  lemma-2a {ν} {xν} factsν within =
      ≤ℤ-trans (iterate-relation ν factsν.sign) (growth-mono P x (≤ℤ_refl (dual_value P M x)) smaller)
    where
      smaller : dual_value P ν xν ≤ℤ dual_value P ν x
      smaller = simp (at-whole, one-*ℤ) at (factsν.minimum (pos 1) x within)
