-- Figures that are accepted fit the widths of their arrays.
use Rattle.std.proofs.Common.{List, ℕ, ◌≡◌, ◌<◌, ℤ, length, take, length-take-le, arith, refl}
use mir.Syntax.{w16}
use mir.Val.{SFits}
use lib.Signed.{le_z_yes}
use Rattle.rules.specs.declared.Sizes.{Sizes}
use Rattle.rules.specs.Problem.{Problem}
use Rattle.rules.specs.Sheet.{key_of, problem_from}
use Rattle.proof_integer.specs.Order.{≤ℤ-trans}
use Rattle.proof_integer.specs.Range.{bnd-between, bnd-sfits}
use Rattle.proof_magnitudes.specs.Accepted.{Accepted}
use Rattle.sheet_table.specs.Tabled.{table_in}
use Rattle.sheet_figures.specs.Figures.{array, figures_of, coefficients_over}
use Rattle.sheet_unpack.specs.Unpacked.{RowFits}
use Rattle.sheet_unpack.proofs.Parts.{put-start}
use Rattle.sheet_unpack.proofs.unpack.Goals as goal

-- ---- the figures of an accepted problem that are stored in 16 bits
module _ {P : Problem} {k : ℕ} (a : Accepted P k) where
  cost-fits : (j : ℕ) → j < P.materials → SFits w16 (P.cost j)
  cost-fits j l = bnd-sfits tt (a.cost-in j l)

  least-fits : (j : ℕ) → j < P.materials → SFits w16 (P.least j)
  least-fits j l =
      bnd-sfits {a = 1000} tt
      (bnd-between (≤ℤ-trans (le_z_yes tt) (a.least-sign j l)) (≤ℤ-trans (a.ordered j l) (a.most-in j l)))

  most-fits : (j : ℕ) → j < P.materials → SFits w16 (P.most j)
  most-fits j l =
      bnd-sfits {a = 1000} tt
      (bnd-between (≤ℤ-trans (le_z_yes tt) (≤ℤ-trans (a.least-sign j l) (a.ordered j l))) (a.most-in j l))

-- a row of materials goes to the first places of an array of 32
row-asks : (z : Sizes) (t : List ℤ) → Accepted (problem_from z (table_in t)) z.steps
    → (row : ℕ) (to : List ℤ) → row < 19 → length to ≡ 32
    → ((j : ℕ) → j < z.shape.materials → SFits w16 (table_in t (key_of row j)))
    → RowFits t row (length (take z.shape.materials to))
unfolding problem_from
row-asks z t a row to in_table room fits =
    let all = length-take-le z.shape.materials to (omega (arith, a.materials-few)) in
    record {
      row_in = in_table;
      narrow = omega (arith, a.materials-few);
      fits = λ j l. fits j (omega arith);
    }

pub take_row-requires : goal.take_row-requires
unfolding problem_from
take_row-requires c =
    row-asks c.args.sizes c.args.table.now c.requires 0 _ (omega arith) refl (cost-fits c.requires)

pub take_row-requires-2 : goal.take_row-requires-2
unfolding problem_from
take_row-requires-2 c =
    row-asks c.args.sizes c.args.table.now c.requires 1 _ (omega arith) refl (least-fits c.requires)

pub take_row-requires-3 : goal.take_row-requires-3
unfolding problem_from
take_row-requires-3 c =
    row-asks c.args.sizes c.args.table.now c.requires 2 _ (omega arith) refl (most-fits c.requires)

pub returns-clause-value : goal.returns-clause-value
unfolding problem_from figures_of array
returns-clause-value c =
    let z = c.args.sizes in
    λ i. record {
      materials = z.shape.materials;
      limits = z.shape.limits;
      numerator = z.numerator;
      scale = z.scale;
      steps = z.steps;
      cost = put-start _ _ _ c.requires.materials-few c.take_row.ensures i;
      least = put-start _ _ _ c.requires.materials-few c.take_row-2.ensures i;
      most = put-start _ _ _ c.requires.materials-few c.take_row-3.ensures i;
      rhs = put-start _ _ _ c.requires.limits-few c.take_column.ensures i;
      start = put-start _ _ _ c.requires.limits-few c.take_column-2.ensures i;
    }

pub returns-clause-coefficient_after : goal.returns-clause-coefficient_after
unfolding problem_from coefficients_over
returns-clause-coefficient_after c = c.take_rows.ensures
