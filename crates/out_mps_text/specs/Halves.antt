-- The text in two parts: what comes before RHS, and the rest.
use Rattle.std.specs.Prelude.{◌≡◌, List, ◌++◌, ℕ, ℤ}
use Rattle.std.proofs.Common.{append_assoc}
use Rattle.rules.specs.Problem.{Problem}
use Rattle.rules.specs.Listing.{text, lines}
use Rattle.rules_mps.specs.Mps.{row_line, column_lines, rhs_line, bound_lines, mps_text}

-- NAME, ROWS and COLUMNS of n materials and m limits, by cost and coefficient
unfoldable pub upper_text : ℕ → ℕ → (ℕ → ℤ) → (ℕ → ℕ → ℤ) → List ℕ
upper_text n m c a =
    text "NAME SHEET\nROWS\n N COST\n"
    ++ lines m row_line
    ++ text "COLUMNS\n"
    ++ lines n (λ j. column_lines j m (c j) (λ i. a i j))

-- RHS, BOUNDS and ENDATA, by right-hand side, least and most amount
unfoldable pub lower_text : ℕ → ℕ → (ℕ → ℤ) → (ℕ → ℤ) → (ℕ → ℤ) → List ℕ
lower_text n m b l u =
    text "RHS\n"
    ++ lines m (λ i. rhs_line i (b i))
    ++ text "BOUNDS\n"
    ++ lines n (λ j. bound_lines j (l j) (u j))
    ++ text "ENDATA\n"

-- lists put together from the left or from the right
regrouped : (u r s b t e : List ℕ) → u ++ (r ++ s ++ b ++ t ++ e) ≡ u ++ r ++ s ++ b ++ t ++ e
regrouped u r s b t e = simp append_assoc

-- both parts are the text
pub halves : (P : Problem)
    → upper_text P.materials P.limits P.cost P.coefficient
    ++ lower_text P.materials P.limits P.rhs P.least P.most
    ≡ mps_text P
unfolding upper_text lower_text mps_text text
halves P =
    regrouped (upper_text P.materials P.limits P.cost P.coefficient)
    (text "RHS\n")
    (lines P.limits (λ i. rhs_line i (P.rhs i)))
    (text "BOUNDS\n")
    (lines P.materials (λ j. bound_lines j (P.least j) (P.most j)))
    (text "ENDATA\n")
