-- Sizes and figures that fit the bytes of a sheet: those that are not refused, and those of 16 and 32 bits.
use Rattle.std.specs.Prelude.{◌≡◌, refl, Bool, not, cond, ◌&&◌, ◌||◌, ℕ, suc, ◌≤◌, ℤ, pos, negsuc}
use Rattle.std.proofs.Common.{sym, ap, ◌∙◌, arith, eqb-true}
use Rattle.std.proofs.Math.Bool.{true, false}
use Rattle.std.proofs.Math.Option.{none}
use Rattle.std.proofs.lemmas.Bool.{not-false}
use Rattle.std.proofs.Math.Dec.{T}
use Rattle.std.specs.Float.Ieee.Fits.{and_l, and_r}
use Rattle.std.specs.Int.Signed.{le_z}
use mir.Syntax.{w32}
use mir.Val.{SFits}
use Rattle.std.proofs.Math.Facts.{leb_yes, sfits_lit}
use Rattle.proof_integer.specs.Range.{sfits-between}
use Rattle.proof_laws.specs.Below.{fails, any_none}
use Rattle.proof_laws.specs.NotRefused.{otherwise-none, refuse-false, refuse-none}
use Rattle.rules.specs.Notation.{is_zero, at}
use Rattle.rules.specs.declared.Kind.{Kind}
use Rattle.rules.specs.declared.Kind.TheVariants.{Cost, Least, Most, Coefficient, Rhs, Start}
use Rattle.rules.specs.declared.Shape.{Shape}
use Rattle.rules.specs.declared.Sizes.{Sizes}
use Rattle.rules.specs.Sheet.{row_of, column_of}
use Rattle.rules.specs.Ranges.{ranges, index_of, range_of, kind_at, in_range, between, parameters_in_range}
use Rattle.rules.specs.Encoder.{all_keys}
use Rattle.rules.specs.Refusals.{no_figure_at, value_bad}
use Rattle.rules_arrays.specs.Arrays.{Arrays, figure_of, gathered, figure_bad, table_refusal, arrays_refusal}
use Rattle.sheet_arrays.specs.Accepted.{shape-in}
use Rattle.sheet_written.specs.ReadBack.{Fit}
use Rattle.sheet_written.specs.Shaped.{Shaped}

-- the table of arrays is 0 where its shape has no figure
pub gathered-shaped : (shape : Shape) (A : Arrays) → Shaped shape (gathered shape A)
unfolding Shaped gathered
gathered-shaped shape A q l h = rw h

-- ---- figures in their ranges fit 32 bits
-- the ends of each range do
ends-fit : (kind : Kind) → SFits w32 (range_of kind).least × SFits w32 (range_of kind).greatest
unfolding range_of ranges index_of
ends-fit Cost = (sfits_lit tt, sfits_lit tt)
ends-fit Least = (sfits_lit tt, sfits_lit tt)
ends-fit Most = (sfits_lit tt, sfits_lit tt)
ends-fit Coefficient = (sfits_lit tt, sfits_lit tt)
ends-fit Rhs = (sfits_lit tt, sfits_lit tt)
ends-fit Start = (sfits_lit tt, sfits_lit tt)

-- and what lies between them
in-range-fits : (kind : Kind) (v : ℤ) → T (in_range (range_of kind) v) → SFits w32 v
unfolding in_range
in-range-fits kind v t =
    let (least, greatest) = ends-fit kind in
    let below = le_z (range_of kind).least v in
    let above = le_z v (range_of kind).greatest in
    sfits-between least greatest (record { le = and_l below above t }) (record { le = and_r below above t })

-- 0 is what is tested for
zero_is : (v : ℤ) → is_zero v ≡ true → v ≡ pos 0
unfolding is_zero
zero_is (pos k) h = ap pos (eqb-true k 0 h)
zero_is (negsuc k) h = let z : suc k ≡ 0 = eqb-true (suc k) 0 h in absurd (omega arith)

never : false ≡ true → ⊥
never h = let z : ◌≡◌ {A = ℕ} 0 1 = cc in omega arith

-- so does a figure that is not bad
good-fits : (shape : Shape) (key : ℕ) (v : ℤ) → figure_bad shape key v ≡ false → SFits w32 v
unfolding figure_bad value_bad
good-fits shape key v h = by (is_zero v) refl (in_range (range_of kind) v) refl
  where
    kind : Kind
    kind = kind_at shape (row_of key) (column_of key)

    by : (z : Bool) → is_zero v ≡ z → (inside : Bool) → in_range (range_of kind) v ≡ inside → SFits w32 v
    by true z inside r = rw (zero_is v z) (sfits_lit tt)
    by false z true r = in-range-fits kind v (rw r tt)
    by false z false r = absurd (never (sym h ∙ (λ t. not (z t) && (z t || not (r t)))))

-- ---- what is not refused fits
module _ (z : Sizes) (A : Arrays) (accepted : arrays_refusal z A ≡ none) where
  parameters-fit : parameters_in_range z ≡ true → (z.numerator ≤ 1024) × (z.scale ≤ 1024) × (z.steps ≤ 4096)
  unfolding parameters_in_range between
  parameters-fit h =
      let t : T (parameters_in_range z) = rw h tt in
      (search (and_l, and_r, leb_yes), search (and_l, and_r, leb_yes), search (and_l, and_r, leb_yes))

  pub table-refusal : table_refusal z (gathered z.shape A) ≡ none
  unfolding arrays_refusal
  table-refusal = (otherwise-none _ _ accepted).1

  pub accepted-fit : Fit z (gathered z.shape A)
  unfolding table_refusal
  accepted-fit =
      let shape = shape-in z A accepted in
      let (_, later) = otherwise-none _ _ table-refusal in
      let (parameters, last) = otherwise-none _ _ later in
      let (figures, _) = otherwise-none _ _ last in
      let (p, d, k) = parameters-fit (not-false _ (refuse-false 4 0 _ parameters)) in
      record {
        sizes = record {
          materials = omega (arith, shape.narrow);
          limits = omega (arith, shape.few);
          numerator = omega arith;
          scale = omega arith;
          steps = omega arith;
        };
        values = λ q l. good-fits z.shape q _ (fails _ (any_none all_keys _ (refuse-none 6 0 _ figures) q l));
      }

-- ---- figures of 32 bits
pub record FiguresFit (A : Arrays) : Type 0 where
  pub costs : (i : ℕ) → SFits w32 (at A.costs i)
  pub least_amounts : (i : ℕ) → SFits w32 (at A.least_amounts i)
  pub most_amounts : (i : ℕ) → SFits w32 (at A.most_amounts i)
  pub coefficients : (i : ℕ) → SFits w32 (at A.coefficients i)
  pub right_hand_sides : (i : ℕ) → SFits w32 (at A.right_hand_sides i)
  pub starts : (i : ℕ) → SFits w32 (at A.starts i)

-- each stands in the table, or 0 does
module _ (shape : Shape) (A : Arrays) (fit : FiguresFit A) where
  figure-fits : (kind : Kind) (row column : ℕ) → SFits w32 (figure_of shape A kind row column)
  unfolding figure_of
  figure-fits Cost row column = fit.costs _
  figure-fits Least row column = fit.least_amounts _
  figure-fits Most row column = fit.most_amounts _
  figure-fits Coefficient row column = fit.coefficients _
  figure-fits Rhs row column = fit.right_hand_sides _
  figure-fits Start row column = fit.starts _

  pub gathered-fits : (q : ℕ) → SFits w32 (gathered shape A q)
  unfolding gathered
  gathered-fits q = by (no_figure_at shape (row_of q) (column_of q))
    where
      by : (b : Bool)
          → SFits w32
          (cond b (pos 0) (figure_of shape A (kind_at shape (row_of q) (column_of q)) (row_of q) (column_of q)))
      by true = sfits_lit tt
      by false = figure-fits _ _ _
