-- A reading that ends with a refusal answers it; one that ends with none answers the sheet's figures.
use Rattle.std.specs.Prelude.{Result, Ok, Err}
use mathlib.Core.Path.{◌≡◌, refl, ap}
use mathlib.Core.List.{List}
use mathlib.Core.Option.{Option, none, some}
use lib.IntN.{ℤ}
use Rattle.rules.specs.declared.Refusal.{Refusal}
use Rattle.rules.specs.Sheet.{Sheet, problem}
use Rattle.rules.specs.Refusals.{Numbered, numbered}
use Rattle.sheet_figures.specs.declared.Figures.{Figures}
use Rattle.sheet_figures.specs.Figures.{figures_of, coefficients_over}
use Rattle.sheet_read.specs.Reading.{figured, reading_of, figures_unless, coefficients_unless, Reads}

module _ (S : Sheet) {met : Option Numbered} {lent : List ℤ} where
  pub turned-back : (r : Refusal) → met ≡ some (numbered r) → Reads S met lent lent (Err r)
  unfolding reading_of figures_unless coefficients_unless
  turned-back r h = rw h (record { answered = refl; coefficients = refl })

  pub read_whole : {after : List ℤ} {f : Figures} → met ≡ none → f ≡ figures_of (problem S) S.sizes.steps
      → after ≡ coefficients_over lent (problem S) → Reads S met lent after (Ok f)
  unfolding reading_of figures_unless coefficients_unless
  read_whole h e c = rw h (record { answered = ap figured e; coefficients = c })

  -- the same refusal, told another way
  pub told-as : {other : Option Numbered} {after : List ℤ} {r : Result Figures Refusal} → met ≡ other
      → Reads S met lent after r → Reads S other lent after r
  told-as e h = rw e at h
