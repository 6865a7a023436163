-- The table of the arrays, at each row and column.
use Rattle.std.specs.Prelude.{◌≡◌, true, false, ℕ, ◌+◌, ◌-◌, ◌*◌, ◌<◌, ◌≤◌, pos}
use Rattle.std.proofs.Math.Path.{refl, ap}
use Rattle.std.proofs.Common.{◌∙◌, arith}
use Rattle.std.proofs.Math.Bool.{and-false}
use borrow.Author.Tests.{le-ltb, lt-leb}
use Rattle.rules.specs.Notation.{at}
use Rattle.rules.specs.declared.Kind.{Kind}
use Rattle.rules.specs.declared.Shape.{Shape}
use Rattle.rules.specs.Sheet.{key_of}
use Rattle.rules.specs.Ranges.{kind_at}
use Rattle.rules.specs.Refusals.{no_figure_at}
use Rattle.rules_arrays.specs.Arrays.{Arrays, figure_of, gathered}
use Rattle.proof_laws.specs.Entries.{key-parts, coefficient-kind, rhs-kind, start-kind}

-- ---- where the shape has a figure
module _ (shape : Shape) (row column : ℕ) where
  abbrev n : ℕ
  n = shape.materials

  pub material-there : row ≤ 2 → column < n → no_figure_at shape row column ≡ false
  unfolding no_figure_at
  material-there r l =
      rw (le-ltb (shape.limits + 2) row (omega arith), le-ltb (n + 1) column (omega arith), lt-leb n column l)

  pub limit-there : 3 ≤ row → row ≤ shape.limits + 2 → column ≤ n + 1 → no_figure_at shape row column ≡ false
  unfolding no_figure_at
  limit-there r s l =
      rw (le-ltb (shape.limits + 2) row s, le-ltb (n + 1) column l, lt-leb row 2 r, and-false)

-- ---- the table there
module _ (shape : Shape) (A : Arrays) (row column : ℕ) (narrow : column < 64) where
  pub gathered-there : {kind : Kind} → no_figure_at shape row column ≡ false → kind_at shape row column ≡ kind
      → gathered shape A (key_of row column) ≡ figure_of shape A kind row column
  unfolding gathered
  gathered-there h k = let (r, c) = key-parts row column narrow in rw (r, c, h, k)

  pub gathered_none : no_figure_at shape row column ≡ true → gathered shape A (key_of row column) ≡ pos 0
  unfolding gathered
  gathered_none h = let (r, c) = key-parts row column narrow in rw (r, c, h)

-- ---- of a shape in its range: each figure stands at its row and column
module _ (shape : Shape) (A : Arrays) (narrow : shape.materials ≤ 32) where
  pub cost-at : (j : ℕ) → j < shape.materials → gathered shape A (key_of 0 j) ≡ at A.costs j
  unfolding kind_at figure_of
  cost-at j l = gathered-there shape A 0 j (omega arith) (material-there shape 0 j (omega arith) l) refl

  pub least_at : (j : ℕ) → j < shape.materials → gathered shape A (key_of 1 j) ≡ at A.least_amounts j
  unfolding kind_at figure_of
  least_at j l = gathered-there shape A 1 j (omega arith) (material-there shape 1 j (omega arith) l) refl

  pub most-at : (j : ℕ) → j < shape.materials → gathered shape A (key_of 2 j) ≡ at A.most_amounts j
  unfolding kind_at figure_of
  most-at j l = gathered-there shape A 2 j (omega arith) (material-there shape 2 j (omega arith) l) refl

  module _ (i : ℕ) (few : i < shape.limits) where
    back : 3 + i - 3 ≡ i
    back = omega arith

    there : (column : ℕ) → column ≤ shape.materials + 1 → no_figure_at shape (3 + i) column ≡ false
    there column l = limit-there shape (3 + i) column (omega arith) (omega arith) l

    pub coefficient-at : (j : ℕ) → j < shape.materials
        → gathered shape A (key_of (3 + i) j) ≡ at A.coefficients (shape.materials * i + j)
    unfolding figure_of
    coefficient-at j l =
        gathered-there shape A (3 + i) j (omega arith) (there j (omega arith)) (coefficient-kind shape i j l)
        ∙ ap (λ (x : ℕ). at A.coefficients (shape.materials * x + j)) back

    pub rhs-at : gathered shape A (key_of (3 + i) shape.materials) ≡ at A.right_hand_sides i
    unfolding figure_of
    rhs-at =
        gathered-there shape A (3 + i) shape.materials (omega arith) (there _ (omega arith)) (rhs-kind shape i)
        ∙ ap (at A.right_hand_sides) back

    pub start-at : gathered shape A (key_of (3 + i) (shape.materials + 1)) ≡ at A.starts i
    unfolding figure_of
    start-at =
        gathered-there shape A (3 + i) (shape.materials + 1) (omega arith) (there _ (omega arith)) (start-kind shape i)
        ∙ ap (at A.starts) back
