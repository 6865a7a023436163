-- What reading a sheet's bytes gives: its figures, or a refusal.
use Rattle.std.specs.Prelude.{◌≡◌, refl, List, ℤ, Result, Ok, Err}
use Rattle.std.proofs.Math.Option.{Option, none, some}
use Rattle.rules.specs.declared.Refusal.{Refusal}
use Rattle.rules.specs.Sheet.{Sheet, table_of, problem}
use Rattle.rules.specs.Refusals.{Numbered, numbered, ◌otherwise◌, value_refusal, bound_refusal}
use Rattle.sheet_figures.specs.declared.Figures.{Figures}
use Rattle.sheet_figures.specs.Figures.{figures_of, coefficients_over}

-- the figures of a sheet, or the refusal that it is read with
pub data Figured : Type 0 where
  figured : Figures → Figured
  refused : Numbered → Figured

-- what each case of the code's answer stands for
unfoldable pub reading_of : Result Figures Refusal → Figured
reading_of (Ok f) = figured f
reading_of (Err r) = refused (numbered r)

-- a refusal where there is one, else the figures of the sheet
unfoldable pub figures_unless : Option Numbered → Sheet → Figured
figures_unless none S = figured (figures_of (problem S) S.sizes.steps)
figures_unless (some r) S = refused r

-- the array that is lent for its coefficients, afterwards; where it is refused, as lent
unfoldable pub coefficients_unless : Option Numbered → Sheet → List ℤ → List ℤ
coefficients_unless none S lent = coefficients_over lent (problem S)
coefficients_unless (some r) S lent = lent

-- The reading of a sheet that ends with this refusal, or with none: the answer, and the lent array afterwards.
pub record Reads (S : Sheet) (refusal : Option Numbered) (lent after : List ℤ) (r : Result Figures Refusal) : Type 0
  where
    pub answered : reading_of r ≡ figures_unless refusal S
    pub coefficients : after ≡ coefficients_unless refusal S lent

-- ---- what the answer says of the refusal
pub same_figures : (f g : Figures) → figured f ≡ figured g → f ≡ g
same_figures f g e = cc

-- a sheet whose figures are answered is not refused
pub figures_read : (S : Sheet) (f : Figures) (met : Option Numbered) → reading_of (Ok f) ≡ figures_unless met S
    → met ≡ none
unfolding reading_of figures_unless
figures_read S f none e = refl
figures_read S f (some r) e = absurd (cc)

-- and a refusal that is answered is the one that was met
pub refused_reading : (S : Sheet) (r : Refusal) (met : Option Numbered) → reading_of (Err r) ≡ figures_unless met S
    → met ≡ some (numbered r)
unfolding reading_of figures_unless
refused_reading S r none e = absurd (cc)
refused_reading S r (some met) e = cc

-- ---- refusals 6 and 7 of a sheet
unfoldable pub figures_refusal : Sheet → Option Numbered
figures_refusal S = value_refusal S otherwise bound_refusal S.sizes.shape (table_of S)
