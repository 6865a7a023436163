-- Only the figures of the n materials and the m limits count: problems that agree in them have the same text.
use Rattle.std.specs.Prelude.{◌≡◌, List, ◌++◌, ℕ, ◌<◌}
use Rattle.std.proofs.Common.{◌∙◌}
use Rattle.rules.specs.Problem.{Problem}
use Rattle.rules.specs.Listing.{text, lines}
use Rattle.rules_mps.specs.Mps.{cost_line, coefficient_line, column_lines, row_line, rhs_line, bound_lines, mps_text}
use Rattle.proof_laws.specs.Agreeing.{Agree}
use Rattle.out_lines.specs.ManyLines.{lines-agree}

module _ {P Q : Problem} (same : Agree P Q) where
  -- lines of the materials, and of the limits
  by-materials : (f g : ℕ → List ℕ) → ((j : ℕ) → j < Q.materials → f j ≡ g j)
      → lines P.materials f ≡ lines Q.materials g
  by-materials f g h = (λ k. lines (same.materials k) f) ∙ lines-agree Q.materials f g h

  by-limits : (f g : ℕ → List ℕ) → ((i : ℕ) → i < Q.limits → f i ≡ g i)
      → lines P.limits f ≡ lines Q.limits g
  by-limits f g h = (λ k. lines (same.limits k) f) ∙ lines-agree Q.limits f g h

  columns : (j : ℕ) → j < Q.materials
      → column_lines j P.limits (P.cost j) (λ i. P.coefficient i j)
      ≡ column_lines j Q.limits (Q.cost j) (λ i. Q.coefficient i j)
  unfolding column_lines
  columns j l =
      let coefficients = by-limits
      (λ i. coefficient_line j i (P.coefficient i j))
      (λ i. coefficient_line j i (Q.coefficient i j))
      (λ i h k. coefficient_line j i (same.coefficient i j h l k)) in
      λ k. cost_line j (same.cost j l k) ++ coefficients k

  pub same_text : mps_text P ≡ mps_text Q
  unfolding mps_text
  same_text =
      let all-columns = by-materials _ _ columns in
      let sides = by-limits
      (λ i. rhs_line i (P.rhs i))
      (λ i. rhs_line i (Q.rhs i))
      (λ i h k. rhs_line i (same.rhs i h k)) in
      let bounds = by-materials
      (λ j. bound_lines j (P.least j) (P.most j))
      (λ j. bound_lines j (Q.least j) (Q.most j))
      (λ j l k. bound_lines j (same.least j l k) (same.most j l k)) in
      λ k.
      text "NAME SHEET\n"
      ++ text "ROWS\n"
      ++ text " N COST\n"
      ++ lines (same.limits k) row_line
      ++ text "COLUMNS\n"
      ++ all-columns k
      ++ text "RHS\n"
      ++ sides k
      ++ text "BOUNDS\n"
      ++ bounds k
      ++ text "ENDATA\n"
