-- Points held against the statements of Problem and Margins, by computing with the definitions and with no theorem:
-- points that are feasible, points that miss it by one unit in one clause, what each claim of T9.3 to T9.7 says in
-- numbers of any low and gap, claims that a point refutes, and claims that hold. That all hold is proved in the crate
-- `proof_margins`.
use Rattle.std.specs.Prelude.{◌≡◌, refl, List, [], ◌∷◌, ℕ, zero, suc, ◌<◌, ℤ, pos, ◌+ℤ◌, ◌-ℤ◌, ◌*ℤ◌, ◌≤ℤ◌}
use Rattle.std.proofs.Common.{le_of_suc-le-suc, not-suc-le-zero, lit<}
use Rattle.std.specs.Int.Signed.{le_z_yes, lt_z_yes}
use Rattle.rules.specs.Notation.{neg, sum_to, at}
use Rattle.rules.specs.Problem.{Problem, Feasible, NoneFeasible}
use Rattle.rules.specs.Sheet.{sheet_of, problem}
use Rattle.rules.specs.Run.{look_after, plan_after}
use Rattle.rules.specs.Refusals.{Numbered}
use Rattle.rules.specs.Answers.{plan, refused, answer}
use Rattle.rules.specs.Margins.{square, PlanMargins, Margins}
use Rattle.rules.specs.Rows.{◌∶◌, encode, Holds}
use Rattle.rules.specs.Marked.{C1, C3, C7, C9}
use Rattle.rules.specs.Closing.{L2, L4, L5, L6}

-- the problem of a sheet's bytes
abbrev pub from_sheet : List ℕ → Problem
from_sheet sheet = problem (sheet_of sheet)

-- amounts of one material, and of two
abbrev pub one : ℤ → ℕ → ℤ
one x _ = x

abbrev two : ℤ → ℤ → ℕ → ℤ
two x y zero = x
two x y (suc _) = y

-- what holds at 0 holds at every place below 1
below_one : (Q : ℕ → Type 0) → Q 0 → (j : ℕ) → j < 1 → Q j
below_one Q at-0 zero l = at-0
below_one Q at-0 (suc j) l = absurd (not-suc-le-zero (le_of_suc-le-suc l))

-- what holds at 0 and at 1 holds at every place below 2
below_two : (Q : ℕ → Type 0) → Q 0 → Q 1 → (j : ℕ) → j < 2 → Q j
below_two Q at-0 at_1 zero l = at-0
below_two Q at-0 at_1 (suc j) l = below_one (λ i. Q (suc i)) at_1 j (le_of_suc-le-suc l)

-- ---- feasible points: C1 has from 0 to 10 of each of two materials, and −2·x₀ − x₁ ≤ −12
abbrev pub P₁ : Problem
P₁ = from_sheet C1.sheet

-- the recipe (1, 10): −2 − 10 = −12
abbrev pub wholes : ℕ → ℤ
wholes = two (pos 1) (pos 10)

pub wholes-feasible : Feasible P₁ (pos 1) wholes
unfolding Holds
wholes-feasible = record {
  divisor = lt_z_yes tt;
  above = below_two _ (le_z_yes tt) (le_z_yes tt);
  below = below_two _ (le_z_yes tt) (le_z_yes tt);
  within = below_one _ (le_z_yes tt);
}

-- the recipe (3/2, 9), which needs the fraction: −6 − 18 = −24 is at most 2·(−12); and 18, above 10, is at most 2·10
abbrev pub halves : ℕ → ℤ
halves = two (pos 3) (pos 18)

pub halves-feasible : Feasible P₁ (pos 2) halves
unfolding Holds
halves-feasible = record {
  divisor = lt_z_yes tt;
  above = below_two _ (le_z_yes tt) (le_z_yes tt);
  below = below_two _ (le_z_yes tt) (le_z_yes tt);
  within = below_one _ (le_z_yes tt);
}

-- C9 has exactly 4 of its material: 8/2
pub least-feasible : Feasible (from_sheet C9.sheet) (pos 2) (one (pos 8))
unfolding Holds
least-feasible = record {
  divisor = lt_z_yes tt;
  above = below_one _ (le_z_yes tt);
  below = below_one _ (le_z_yes tt);
  within = λ i l. absurd (not-suc-le-zero l);
}

-- ---- points that are not feasible, each by one unit in one clause
-- C1: a divisor of 0
pub divisor-zero : Feasible P₁ (pos 0) (one (pos 0)) → ⊥
unfolding Holds
divisor-zero f = f.divisor.lt

-- C7, from 0 to 0: a divisor below 0
pub divisor-negative : Feasible (from_sheet C7.sheet) (neg 1) (one (pos 0)) → ⊥
unfolding Holds
divisor-negative f = f.divisor.lt

-- C1: −1/2 of material 1
pub amount-negative : Feasible P₁ (pos 2) (two (pos 20) (neg 1)) → ⊥
unfolding Holds
amount-negative f = (f.above 1 (lit< tt)).le

-- C9: 7/2, below 4
pub amount-below-least : Feasible (from_sheet C9.sheet) (pos 2) (one (pos 7)) → ⊥
unfolding Holds
amount-below-least f = (f.above 0 (lit< tt)).le

-- C1: 21/2, above 10
pub amount-above-most : Feasible P₁ (pos 2) (two (pos 2) (pos 21)) → ⊥
unfolding Holds
amount-above-most f = (f.below 1 (lit< tt)).le

-- C1: (3/2, 17/2), −23/2 against −12
pub load-over-limit : Feasible P₁ (pos 2) (two (pos 3) (pos 17)) → ⊥
unfolding Holds
load-over-limit f = (f.within 0 (lit< tt)).le

-- ---- C1, with low 104 and gap −16: what the margins of a plan with any low and gap say at the two recipes
pub margins-of-plan : (low gap : ℤ) → Margins C1.sheet (plan low gap) → PlanMargins P₁ 4 low gap
unfolding Holds Margins
margins-of-plan low gap claim = claim

-- ---- C8 with D = 3. Its cost is negative, so that here a claim without D, or with one step for all, would say less
abbrev pub P₃ : Problem
P₃ = from_sheet (encode 1 0 1 3 2 (0 ∶ neg 2 ∷ 128 ∶ pos 3 ∷ []))

-- 6/2 of the material
pub negative-feasible : Feasible P₃ (pos 2) (one (pos 6))
unfolding Holds
negative-feasible = record {
  divisor = lt_z_yes tt;
  above = below_one _ (le_z_yes tt);
  below = below_one _ (le_z_yes tt);
  within = λ i l. absurd (not-suc-le-zero l);
}

-- ---- of every sheet: after refusal 9, at any place, the margins say that there is no feasible point ..
pub margins-of-infeasible : (s : List ℕ) (place : ℕ) → Margins s (refused (record { number = 9; place = place }))
    → NoneFeasible (from_sheet s)
unfolding Margins
margins-of-infeasible s place claim = claim refl

-- .. and after any other nothing, so that they hold
pub margins-of-others : (s : List ℕ) (r : Numbered) → (r.number ≡ 9 → ⊥) → Margins s (refused r)
unfolding Margins
margins-of-others s r other nine = absurd (other nine)

-- C3 with a most amount of 5, in place of 1, is planned, and has a feasible point: 5
abbrev C3-with-5 : List ℕ
C3-with-5 = encode 1 1 1 1 2 (0 ∶ pos 1 ∷ 128 ∶ pos 5 ∷ 192 ∶ neg 1 ∷ 193 ∶ neg 5 ∷ [])

pub answered-with-5 : answer C3-with-5 C3.room ≡ plan (pos 5) (neg 5)
unfolding Holds
answered-with-5 = refl

pub feasible-with-5 : Feasible (from_sheet C3-with-5) (pos 1) (one (pos 5))
unfolding Holds
feasible-with-5 = record {
  divisor = lt_z_yes tt;
  above = below_one _ (le_z_yes tt);
  below = below_one _ (le_z_yes tt);
  within = below_one _ (le_z_yes tt);
}

-- ---- the two sides of the residual claim at limit 0, and of the squares claim
module _ (P : Problem) (k : ℕ) where
  abbrev pub residual-left : ℤ
  residual-left = pos P.numerator *ℤ at (plan_after P k).residual_totals 0

  abbrev pub residual-right : ℤ
  residual-right = at (plan_after P k).multipliers 0 -ℤ P.starting_multiplier 0

  abbrev pub squares-left : ℤ → ℤ
  squares-left gap =
      pos 2 *ℤ pos P.numerator *ℤ gap +ℤ sum_to P.limits (λ i. square (at (plan_after P k).multipliers i))

  abbrev pub squares-right : ℤ
  squares-right =
      sum_to P.limits (λ i. square (P.starting_multiplier i))
      +ℤ square (pos P.numerator) *ℤ sum_to k (λ t. sum_to P.limits (λ i. square (at (look_after P t).residuals i)))

-- of every problem with a limit, the residual claim says this of its two sides
pub residual-says : (P : Problem) (k : ℕ) (low gap : ℤ) → 0 < P.limits → PlanMargins P k low gap
    → residual-left P k ≤ℤ residual-right P k
residual-says P k low gap some claim = claim.residual_totals 0 some

-- ---- L4, with p = 2 and gap 0: 2·12 ≤ 24, and 0 + 24² ≤ 2²·12²
abbrev pub P₂ : Problem
P₂ = from_sheet L4.sheet

pub residual-sides-P₂ : (residual-left P₂ 1 ≡ pos 24) × (residual-right P₂ 1 ≡ pos 24)
unfolding Holds
residual-sides-P₂ = (refl, refl)

-- the squares claim, of every gap: 2·2·gap + 24² ≤ 2²·12²
pub squares-say-P₂ : (low gap : ℤ) → PlanMargins P₂ 1 low gap → (pos 4 *ℤ gap +ℤ pos 576) ≤ℤ pos 576
unfolding Holds
squares-say-P₂ low gap claim = claim.squares

-- with one less on the larger side each is refuted
pub residual-P₂ : residual-left P₂ 1 ≤ℤ (residual-right P₂ 1 -ℤ pos 1) → ⊥
unfolding Holds
residual-P₂ claim = claim.le

pub squares-P₂ : squares-left P₂ 1 (pos 0) ≤ℤ (squares-right P₂ 1 -ℤ pos 1) → ⊥
unfolding Holds
squares-P₂ claim = claim.le

-- ---- L2, of two steps: the residual claim is 1·4 ≤ 4
pub residual-sides-L2 :
    (residual-left (from_sheet L2.sheet) 2 ≡ pos 4) × (residual-right (from_sheet L2.sheet) 2 ≡ pos 4)
unfolding Holds
residual-sides-L2 = (refl, refl)

-- ---- L5, with a gap that is not 0: p = 4 and gap 36. The residual claim is 4·0 ≤ 0, and the squares claim
-- 2·4·36 + 0² ≤ 4²·(3² + 3²): 288 on both sides
abbrev pub P₄ : Problem
P₄ = from_sheet L5.sheet

pub residual-sides-P₄ : (residual-left P₄ 2 ≡ pos 0) × (residual-right P₄ 2 ≡ pos 0)
unfolding Holds
residual-sides-P₄ = (refl, refl)

-- the squares claim, of every gap: 2·4·gap + 0² ≤ 4²·(3² + 3²)
pub squares-say-P₄ : (low gap : ℤ) → PlanMargins P₄ 2 low gap → (pos 8 *ℤ gap +ℤ pos 0) ≤ℤ pos 288
unfolding Holds
squares-say-P₄ low gap claim = claim.squares

-- with one less on the larger side each is refuted, and so is a gap of 37
pub residual-P₄ : residual-left P₄ 2 ≤ℤ (residual-right P₄ 2 -ℤ pos 1) → ⊥
unfolding Holds
residual-P₄ claim = claim.le

pub squares-P₄ : squares-left P₄ 2 (pos 36) ≤ℤ (squares-right P₄ 2 -ℤ pos 1) → ⊥
unfolding Holds
squares-P₄ claim = claim.le

pub gap-37 : (low : ℤ) → PlanMargins P₄ 2 low (pos 37) → ⊥
unfolding Holds
gap-37 low claim = claim.squares.le

-- ---- The figures of C4 with p = 4: the bound x ≤ 1 and the limit −x ≤ −5 leave no feasible point. So the two claims
-- over points ask nothing, and the other two hold by computing, with gap 0: 4·5 ≤ 20, and 2·4·0 + 20² ≤ 4²·5². A claim
-- that asks for more fails here
abbrev pub P₅ : Problem
P₅ = from_sheet (encode 1 1 4 1 1 (0 ∶ pos 1 ∷ 128 ∶ pos 1 ∷ 192 ∶ neg 1 ∷ 193 ∶ neg 5 ∷ []))

pub margins-hold-P₅ : NoneFeasible P₅ → (low : ℤ) → PlanMargins P₅ 1 low (pos 0)
unfolding Holds
margins-hold-P₅ none low = record {
  lower = λ d y f. absurd (none d y f);
  excess = λ d y f. absurd (none d y f);
  residual_totals = below_one _ (le_z_yes tt);
  squares = le_z_yes tt;
}

-- ---- With starts: L6, with gap 4. The residual claim is 2·(−1) ≤ 2 − 4, and the squares claim
-- 2·2·4 + 2² ≤ 4² + 2²·(−1)²: 20 on both sides
abbrev pub P₆ : Problem
P₆ = from_sheet L6.sheet

pub residual-sides-P₆ : (residual-left P₆ 1 ≡ neg 2) × (residual-right P₆ 1 ≡ neg 2)
unfolding Holds
residual-sides-P₆ = (refl, refl)

-- the squares claim, of every gap: 2·2·gap + 2² ≤ 4² + 2²·1²
pub squares-say-P₆ : (low gap : ℤ) → PlanMargins P₆ 1 low gap → (pos 4 *ℤ gap +ℤ pos 4) ≤ℤ pos 20
unfolding Holds
squares-say-P₆ low gap claim = claim.squares

-- with one less on the larger side each is refuted, and so is a gap of 5
pub residual-P₆ : residual-left P₆ 1 ≤ℤ (residual-right P₆ 1 -ℤ pos 1) → ⊥
unfolding Holds
residual-P₆ claim = claim.le

pub squares-P₆ : squares-left P₆ 1 (pos 4) ≤ℤ (squares-right P₆ 1 -ℤ pos 1) → ⊥
unfolding Holds
squares-P₆ claim = claim.le

pub gap-5 : (low : ℤ) → PlanMargins P₆ 1 low (pos 5) → ⊥
unfolding Holds
gap-5 low claim = claim.squares.le

-- P₅ with the start 3: r = 1 − 3; x = 1; g = 5 − 1 = 4; closing M = 3 + 4·4 = 19. There is no feasible point, and with
-- the gap −12 the other two claims hold by computing: 4·4 ≤ 19 − 3, and 2·4·(−12) + 19² ≤ 3² + 4²·4², 265 on both sides
abbrev pub P₇ : Problem
P₇ = from_sheet (encode 1 1 4 1 1 (0 ∶ pos 1 ∷ 128 ∶ pos 1 ∷ 192 ∶ neg 1 ∷ 193 ∶ neg 5 ∷ 194 ∶ pos 3 ∷ []))

pub margins-hold-P₇ : NoneFeasible P₇ → (low : ℤ) → PlanMargins P₇ 1 low (neg 12)
unfolding Holds
margins-hold-P₇ none low = record {
  lower = λ d y f. absurd (none d y f);
  excess = λ d y f. absurd (none d y f);
  residual_totals = below_one _ (le_z_yes tt);
  squares = le_z_yes tt;
}
