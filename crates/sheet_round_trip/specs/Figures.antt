-- The figures of a problem and of arrays, by row and column of the table.
use Rattle.std.specs.Prelude.{◌≡◌, refl, Bool, true, false, ltb}
use Rattle.std.proofs.Math.Path.{sym}
use Rattle.std.proofs.Common.{◌∙◌, eq-or-lt_of_le, ltb-true, ltb-false}
use Rattle.std.proofs.Math.Logic.{inl, inr}
use Prim.Native.Nat.{ℕ, zero, suc, ◌+◌, ◌<◌, ◌≤◌}
use native.Mathlib.Omega.{arith}
use Rattle.proof_laws.specs.Entries.{figure-at, past-materials}
use Rattle.rules.specs.declared.Sizes.{Sizes}
use Rattle.rules.specs.Sheet.{Table, key_of, problem_from}
use Rattle.rules.specs.Encoder.{all_keys}
use Rattle.rules.specs.Refusals.{no_figure_at}
use Rattle.rules_arrays.specs.Arrays.{Arrays, gathered}
use Rattle.rules_arrays.specs.ReadBack.{SameFigures}
use Rattle.sheet_arrays.specs.Gathered.{cost-at, least_at, most-at, coefficient-at, rhs-at, start-at}

module _ (z : Sizes) (A : Arrays) (U : Table) (narrow : z.shape.materials ≤ 32) where
  abbrev n : ℕ
  n = z.shape.materials

  abbrev T : Table
  T = gathered z.shape A

  -- a table that has the figures of the arrays under all keys has them by material and limit
  pub figures-of : z.shape.limits ≤ 16 → ((q : ℕ) → q < all_keys → U q ≡ T q) → SameFigures (problem_from z U) A
  unfolding problem_from
  figures-of few same = record {
    cost = λ j l. same (key_of 0 j) (omega arith) ∙ cost-at z.shape A narrow j l;
    least = λ j l. same (key_of 1 j) (omega arith) ∙ least_at z.shape A narrow j l;
    most = λ j l. same (key_of 2 j) (omega arith) ∙ most-at z.shape A narrow j l;
    coefficient = λ i j h l. same (key_of (3 + i) j) (omega arith) ∙ coefficient-at z.shape A narrow i h j l;
    rhs = λ i h. same (key_of (3 + i) n) (omega arith) ∙ rhs-at z.shape A narrow i h;
    starting_multiplier = λ i h. same (key_of (3 + i) (n + 1)) (omega arith) ∙ start-at z.shape A narrow i h;
  }

  -- and the other way: wherever the shape has a figure
  module _ (same : SameFigures (problem_from z U) A) where
    -- in a limit's row
    limit-figure : (i column : ℕ) → i < z.shape.limits → column ≤ n + 1
        → U (key_of (3 + i) column) ≡ T (key_of (3 + i) column)
    unfolding problem_from
    limit-figure i column few l = elim (eq-or-lt_of_le l) [
      | inl e ↦ rw e (same.starting_multiplier i few ∙ sym (start-at z.shape A narrow i few))
      | inr before ↦
          let most : column ≤ n = omega arith in
          elim (eq-or-lt_of_le most) [
            | inl e ↦ rw e (same.rhs i few ∙ sym (rhs-at z.shape A narrow i few))
            | inr below ↦
                same.coefficient i column few below ∙ sym (coefficient-at z.shape A narrow i few column below)
          ]
    ]

    -- in the row of a material's figures, the column is a material
    material-column : (row column : ℕ) → row ≤ 2 → no_figure_at z.shape row column ≡ false → column < n
    material-column row column r h = by (ltb column n) refl
      where
        by : (b : Bool) → ltb column n ≡ b → column < n
        by true t = ltb-true column n t
        by false t =
            let none = past-materials z.shape row column r (ltb-false column n t) in
            let never : ◌≡◌ {A = ℕ} 0 1 = cc in
            absurd (omega arith)

    pub figures-at : (row column : ℕ) → no_figure_at z.shape row column ≡ false
        → U (key_of row column) ≡ T (key_of row column)
    unfolding problem_from
    figures-at zero column h =
        let l = material-column 0 column (omega arith) h in
        same.cost column l ∙ sym (cost-at z.shape A narrow column l)
    figures-at (suc zero) column h =
        let l = material-column 1 column (omega arith) h in
        same.least column l ∙ sym (least_at z.shape A narrow column l)
    figures-at (suc (suc zero)) column h =
        let l = material-column 2 column (omega arith) h in
        same.most column l ∙ sym (most-at z.shape A narrow column l)
    figures-at (suc (suc (suc i))) column h =
        let (row_in, column-in) = figure-at z.shape (suc (suc (suc i))) column h in
        let three : suc (suc (suc i)) ≡ 3 + i = omega arith in
        rw three (limit-figure i column (omega arith) column-in)
