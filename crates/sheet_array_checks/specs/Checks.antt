-- Refusals 2, 4, 6 and 7 of figures in plain arrays.
use Rattle.std.specs.Prelude.{◌≡◌, Bool, List, ℕ, ◌≤◌, ℤ, length}
use Rattle.std.proofs.Math.Path.{refl, ap}
use Rattle.std.proofs.Common.{sym, ◌∙◌}
use Rattle.std.proofs.Math.Bool.{true, false, not}
use Rattle.std.proofs.Math.Option.{Option, some}
use Rattle.std.specs.Int.Signed.{lt_z}
use Rattle.rules.specs.Notation.{at}
use Rattle.rules.specs.declared.Shape.{Shape}
use Rattle.rules.specs.declared.Sizes.{Sizes}
use Rattle.rules.specs.Ranges.{dimensions_in_range, parameters_in_range}
use Rattle.rules.specs.Refusals.{Numbered, refuse, ◌otherwise◌, first_below, crossed, bound_refusal}
use Rattle.rules_arrays.specs.Arrays.{Arrays, lengths_match, gathered, table_refusal, arrays_refusal}
use Rattle.proof_laws.specs.Sizes.{SizesInRange, dimensions}
use Rattle.proof_laws.specs.FirstPlace.{refuse-yes, refuse-no, given, handed-on, first_cong}
use Rattle.sheet_arrays.specs.Gathered.{least_at, most-at}
use Rattle.sheet_arrays.specs.Lengths.{lengths-match}
use Rattle.sheet_arrays.specs.Tested.{arrays_outside}
use Rattle.sheet_arrays.proofs.Tested.{table-tested}

-- n and m are small, so that no product wraps
pub record SmallShape (shape : Shape) : Type 0 where
  pub narrow : shape.materials ≤ 32
  pub few : shape.limits ≤ 16

-- refusal 7, of two arrays
unfoldable pub amounts_refusal : List ℤ → List ℤ → Option Numbered
amounts_refusal leasts mosts = first_below (length leasts) (λ j. refuse 7 j (lt_z (at mosts j) (at leasts j)))

-- there is a most amount for each least
pub record AsMany (leasts mosts : List ℤ) : Type 0 where
  pub as_many : length leasts ≡ length mosts

-- a refusal with the place 0
abbrev pub at-start : ℕ → Numbered
at-start number = record { number = number; place = 0 }

-- ---- the chain of these refusals, as code meets it
module _ (z : Sizes) (A : Arrays) where
  -- n or m is out of range
  pub shape-refused : dimensions_in_range z.shape 0 ≡ false → arrays_refusal z A ≡ some (at-start 2)
  unfolding arrays_refusal table_refusal
  shape-refused h = by (lengths_match z.shape A) refl
    where
      by : (b : Bool) → lengths_match z.shape A ≡ b → arrays_refusal z A ≡ some (at-start 2)
      by true l = handed-on _ (refuse-no 2 0 (ap not l)) ∙ given _ (refuse-yes 2 0 (ap not h))
      by false l = given _ (refuse-yes 2 0 (ap not l))

  module _ (shape-in : dimensions_in_range z.shape 0 ≡ true) where
    sizes : SizesInRange z.shape 0
    sizes = dimensions z.shape 0 shape-in

    pub small : SmallShape z.shape
    small = record { narrow = sizes.narrow; few = sizes.few }

    -- an array has another length
    pub lengths-refused : lengths_match z.shape A ≡ false → arrays_refusal z A ≡ some (at-start 2)
    unfolding arrays_refusal
    lengths-refused l = given _ (refuse-yes 2 0 (ap not l))

    module _ (lengths : lengths_match z.shape A ≡ true) where
      -- p, D and k, then the figures, then the bounds decide
      rest : arrays_refusal z A
          ≡ refuse 4 0 (not (parameters_in_range z))
          otherwise refuse 6 0 (arrays_outside A)
          otherwise amounts_refusal A.least_amounts A.most_amounts
      unfolding arrays_refusal table_refusal
      rest =
          handed-on _ (refuse-no 2 0 (ap not lengths))
          ∙ handed-on _ (refuse-no 2 0 (ap not shape-in))
          ∙ (λ t.
          refuse 4 0 (not (parameters_in_range z))
          otherwise refuse 6 0 (table-tested z.shape A sizes.narrow sizes.few (lengths-match _ _ lengths) t)
          otherwise bounds-are t)
        where
          bounds-are : bound_refusal z.shape (gathered z.shape A)
              ≡ amounts_refusal A.least_amounts A.most_amounts
          bounds-are = unfold bound_refusal crossed amounts_refusal in
              let narrow = sizes.narrow in
              first_cong z.shape.materials _ _ (λ j l t.
              refuse 7 j (lt_z (most-at z.shape A narrow j l t) (least_at z.shape A narrow j l t)))
              ∙ ap (λ (n : ℕ). first_below n (λ j. refuse 7 j (lt_z (at A.most_amounts j) (at A.least_amounts j))))
              (sym (lengths-match _ _ lengths).least_amounts)

      pub parameters-refused : parameters_in_range z ≡ false → arrays_refusal z A ≡ some (at-start 4)
      parameters-refused h = rest ∙ given _ (refuse-yes 4 0 (ap not h))

      module _ (parameters-in : parameters_in_range z ≡ true) where
        pub figures-refused : arrays_outside A ≡ true → arrays_refusal z A ≡ some (at-start 6)
        figures-refused h = rest ∙ handed-on _ (refuse-no 4 0 (ap not parameters-in)) ∙ given _ (refuse-yes 6 0 h)

        pub amounts-decide : arrays_outside A ≡ false
            → arrays_refusal z A ≡ amounts_refusal A.least_amounts A.most_amounts
        amounts-decide h =
            rest ∙ handed-on _ (refuse-no 4 0 (ap not parameters-in)) ∙ handed-on _ (refuse-no 6 0 h)
