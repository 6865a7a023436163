-- The claims of T9.3 to T9.7, by the theorem, at the sheets of Points of `rules`, which has their sides in numbers and
-- refutes each with one less on the larger side. And near claims that are false, each made by a must-fail edit.
use Rattle.std.specs.Prelude.{refl, ℕ, ℤ, pos, neg_ℤ, ◌+ℤ◌, ◌-ℤ◌, ◌*ℤ◌, ◌≤ℤ◌}
use Rattle.std.proofs.Common.{lit<}
use Rattle.std.specs.Int.Signed.{le_z_yes}
use Rattle.rules.specs.Notation.{neg, maxℤ, sum_to, at}
use Rattle.rules.specs.Problem.{Problem, NoneFeasible}
use Rattle.rules.specs.Step.{reduced_cost, dual_value}
use Rattle.rules.specs.Run.{look_after, plan_after}
use Rattle.rules.specs.Margins.{square, PlanMargins, Margins}
use Rattle.rules.specs.Rows.{Holds}
use Rattle.rules.specs.Marked.{C1, C3, C4}
use Rattle.rules.specs.Started.{S2}
use Rattle.rules.specs.Closing.{L4, L5, L6}
use Rattle.rules.specs.Points.{from_sheet, P₁, P₂, P₄, P₆, wholes, wholes-feasible, halves, halves-feasible}
use Rattle.rules.specs.Points.{residual-left, residual-right, squares-left, squares-right}
use Rattle.proof_magnitudes.specs.Minimal.{most, AllMinimal, WithinBounds}
use Rattle.proof_magnitudes.specs.Steps.{entering}
use Rattle.proof_margins.specs.Lagrangian.{lagrangian}
use Rattle.proof_margins.proofs.IterateRelation.{norm²}
use Rattle.proof_margins.proofs.Theorem.{margins}

-- ---- C1, with low 104 and gap −16
margins-C1 : PlanMargins P₁ 4 (pos 104) (neg 16)
unfolding Holds Margins
margins-C1 = margins C1.sheet C1.room

-- the recipe (1, 10) meets both claims with equality, 104 ≤ 104 and −16 ≤ −16
pub at-wholes : (pos 104 ≤ℤ pos 104) × (neg 16 ≤ℤ neg 16)
unfolding Holds
at-wholes = (margins-C1.lower (pos 1) wholes wholes-feasible, margins-C1.excess (pos 1) wholes wholes-feasible)

-- the recipe (3/2, 9) keeps both, 208 ≤ 216 and −64 ≤ −32
pub at-halves : (pos 208 ≤ℤ pos 216) × (neg 64 ≤ℤ neg 32)
unfolding Holds
at-halves = (margins-C1.lower (pos 2) halves halves-feasible, margins-C1.excess (pos 2) halves halves-feasible)

-- ---- L4, with gap 0: the residual claim is 24 ≤ 24, and the squares claim 576 ≤ 576
pub claims-L4 : (residual-left P₂ 1 ≤ℤ residual-right P₂ 1) × (squares-left P₂ 1 (pos 0) ≤ℤ squares-right P₂ 1)
unfolding Holds Margins
claims-L4 =
    let plan : PlanMargins P₂ 1 (pos 0) (pos 0) = margins L4.sheet L4.room in
    (plan.residual_totals 0 (lit< tt), plan.squares)

-- ---- L5, with p = 4 and gap 36: 0 ≤ 0, and 288 ≤ 288
pub claims-L5 : (residual-left P₄ 2 ≤ℤ residual-right P₄ 2) × (squares-left P₄ 2 (pos 36) ≤ℤ squares-right P₄ 2)
unfolding Holds Margins
claims-L5 =
    let plan : PlanMargins P₄ 2 (pos 0) (pos 36) = margins L5.sheet L5.room in
    (plan.residual_totals 0 (lit< tt), plan.squares)

-- ---- L6, with a start and gap 4: −2 ≤ −2, and 20 ≤ 20
pub claims-L6 : (residual-left P₆ 1 ≤ℤ residual-right P₆ 1) × (squares-left P₆ 1 (pos 4) ≤ℤ squares-right P₆ 1)
unfolding Holds Margins
claims-L6 =
    let plan : PlanMargins P₆ 1 (pos 8) (pos 4) = margins L6.sheet L6.room in
    (plan.residual_totals 0 (lit< tt), plan.squares)

-- ---- C3, at step 0 S2, and at the closing look C4, refused with 9: they have no feasible point
pub infeasible-C3 : NoneFeasible (from_sheet C3.sheet)
unfolding Holds Margins
infeasible-C3 = margins C3.sheet C3.room refl

pub infeasible-S2 : NoneFeasible (from_sheet S2.sheet)
unfolding Holds Margins
infeasible-S2 = margins S2.sheet S2.room refl

pub infeasible-C4 : NoneFeasible (from_sheet C4.sheet)
unfolding Holds Margins
infeasible-C4 = margins C4.sheet C4.room refl

-- ---- near claims that are false, each made by a must-fail edit: F1 to F3 at plain numbers, and the two sums at L4 and
-- at L6
-- F1 by the other sign of the reduced cost, at one material of cost 1, from 0 to 1, with no limits
abbrev one-material : Problem
one-material = record {
  materials = 1;
  limits = 0;
  numerator = 1;
  scale = 1;
  cost = λ _. pos 1;
  least = λ _. pos 0;
  most = λ _. pos 1;
  coefficient = λ _ _. pos 0;
  rhs = λ _. pos 0;
  starting_multiplier = λ _. pos 0;
}

pub minimum-other-sign : ((P : Problem) (M x : ℕ → ℤ) → AllMinimal P (λ j. neg_ℤ (reduced_cost P M j)) x
    → (d : ℤ) (y : ℕ → ℤ) → WithinBounds P d y → (d *ℤ dual_value P M x) ≤ℤ lagrangian P M d y) → ⊥
unfolding Holds lagrangian
minimum-other-sign claim = (claim one-material (λ _. pos 0) (λ _. pos 1) chosen (pos 1) (λ _. pos 0) within).le
  where
    chosen : AllMinimal one-material (λ j. neg_ℤ (reduced_cost one-material (λ _. pos 0) j)) (λ _. pos 1)
    chosen j l = most (le_z_yes tt) refl

    within : WithinBounds one-material (pos 1) (λ _. pos 0)
    within = record { above = λ j l. le_z_yes tt; below = λ j l. le_z_yes tt }

-- F2 without p, at p = 2: the multiplier 2 with the residual −1 moves to 0 and not to 1
pub up-without-numerator : ((p M g : ℤ) → (M +ℤ g) ≤ℤ maxℤ (pos 0) (M +ℤ p *ℤ g)) → ⊥
unfolding Holds
up-without-numerator claim = (claim (pos 2) (pos 2) (neg 1)).le

-- F3 for a move that is cut at 1, at 0
pub size-cut-at-one : ((z : ℤ) → square (maxℤ (pos 1) z) ≤ℤ square z) → ⊥
unfolding Holds
size-cut-at-one claim = (claim (pos 0)).le

-- at L4, the residual claim for the starting multiplier, and the squares claim with the residuals of no step
pub residuals-below-start : residual-left P₂ 1 ≤ℤ entering P₂ 0 0 → ⊥
unfolding Holds
residuals-below-start claim = claim.le

pub squares-of-one-step-less :
    squares-left P₂ 1 (pos 0)
    ≤ℤ (square (pos P₂.numerator) *ℤ sum_to 0 (λ t. norm² P₂ (at (look_after P₂ t).residuals))) → ⊥
unfolding Holds
squares-of-one-step-less claim = claim.le

-- at L6, the residual claim for twice the start, −2 ≤ 2 − 8, and the squares claim without the starting squares,
-- 20 ≤ 4
pub residuals-with-start-twice :
    residual-left P₆ 1 ≤ℤ (at (plan_after P₆ 1).multipliers 0 -ℤ pos 2 *ℤ P₆.starting_multiplier 0) → ⊥
unfolding Holds
residuals-with-start-twice claim = claim.le

pub squares-without-start :
    squares-left P₆ 1 (pos 4)
    ≤ℤ (square (pos P₆.numerator) *ℤ sum_to 1 (λ t. norm² P₆ (at (look_after P₆ t).residuals))) → ⊥
unfolding Holds
squares-without-start claim = claim.le
