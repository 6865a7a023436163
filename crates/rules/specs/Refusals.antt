-- TASK.md, T7: the numbers of the refusals, and refusals 1 to 7.
use Rattle.std.specs.Prelude.{Result, Ok, Err}
use Rattle.std.specs.Prelude.{ℕ, zero, suc, ◌+◌, Bool, true, false, not, ◌&&◌, ◌||◌, List, length, ℤ, ltb, leb, eqb, ⊤}
use Rattle.std.proofs.Math.Option.{Option, none, some}
use Rattle.std.specs.Int.Signed.{lt_z}
use Rattle.rules.specs.declared.Cause.{Cause}
use Rattle.rules.specs.declared.Cause.TheVariants.{Short, Dimensions, Length, Parameters, Key, Value, Bounds}
use Rattle.rules.specs.declared.Cause.TheVariants.{Buffer, Infeasible, Diverged, Text}
use Rattle.rules.specs.declared.Refusal.{Refusal}
use Rattle.rules.specs.declared.Shape.{Shape}
use Rattle.rules.specs.Notation.{is_zero}
use Rattle.rules.specs.Sheet.{Sheet, header_length, sheet_length, sheet_of, Table, key_of, row_of, column_of, table_of}
use Rattle.rules.specs.Ranges.{range_of, kind_at, in_range, dimensions_in_range, parameters_in_range}

-- T7.1, a refusal: its number and its place.
pub record Numbered : Type 0 where
  pub number : ℕ
  pub place : ℕ

-- T7.4, the number of each cause
unfoldable pub number_of : Cause → ℕ
number_of Short = 1
number_of Dimensions = 2
number_of Length = 3
number_of Parameters = 4
number_of Key = 5
number_of Value = 6
number_of Bounds = 7
number_of Buffer = 8
number_of Infeasible = 9
number_of Diverged = 10
number_of Text = 11

-- what a refusal of the code stands for
unfoldable pub numbered : Refusal → Numbered
numbered r = record { number = number_of r.cause; place = r.place }

-- what the result of a test stands for: no refusal, or a refusal's number and place
unfoldable pub refusal_of : Result ⊤ Refusal → Option Numbered
refusal_of (Ok passed) = none
refusal_of (Err r) = some (numbered r)

-- T7.4, a row of the table: the number, the place, and when it is given
unfoldable pub refuse : ℕ → ℕ → Bool → Option Numbered
refuse number place true = some (record { number = number; place = place })
refuse number place false = none

-- T7.3, the first of two that is given
infixr 20 ◌otherwise◌
unfoldable pub ◌otherwise◌ : Option Numbered → Option Numbered → Option Numbered
none otherwise b = b
some a otherwise b = some a

-- the first that is given at the places 0 to n−1
unfoldable pub first_below : ℕ → (ℕ → Option Numbered) → Option Numbered
first_below zero test = none
first_below (suc n) test = first_below n test otherwise test n

-- T3.2, does no figure stand at a row and a column? Only a limit's row has columns n and n + 1
unfoldable pub no_figure_at : Shape → ℕ → ℕ → Bool
no_figure_at shape row column =
    let n = shape.materials in
    ltb (shape.limits + 2) row || ltb (n + 1) column || (leb n column && leb row 2)

-- T3.2, T3.3: is a value bad under its key, 0 or outside its range?
unfoldable pub value_bad : Shape → ℕ → ℤ → Bool
value_bad shape key value =
    is_zero value || not (in_range (range_of (kind_at shape (row_of key) (column_of key))) value)

-- T7.4, is the least amount of material j above its most?
unfoldable pub crossed : Table → ℕ → Bool
crossed T j = lt_z (T (key_of 2 j)) (T (key_of 1 j))

-- T7.4, refusal 7, at the first such material
unfoldable pub bound_refusal : Shape → Table → Option Numbered
bound_refusal shape T = first_below shape.materials (λ j. refuse 7 j (crossed T j))

-- Of a sheet that has been read:
module _ (S : Sheet) where
  -- T3.4, is the key of entry i not above the one before?
  unfoldable pub not_above : ℕ → Bool
  not_above zero = false
  not_above (suc i) = leb (S.key (suc i)) (S.key i)

  -- T7.4, refusal 5: a key that names no figure, or is not above the one before
  unfoldable pub bad_key : ℕ → Bool
  bad_key i = no_figure_at S.sizes.shape (row_of (S.key i)) (column_of (S.key i)) || not_above i

  -- T7.4, refusal 6: a value that is bad under its key
  unfoldable pub bad_value : ℕ → Bool
  bad_value i = value_bad S.sizes.shape (S.key i) (S.value i)

  -- T7.4, refusals 2 to 4, of a sheet that has so many bytes
  unfoldable pub sizes_refusal : ℕ → Option Numbered
  sizes_refusal bytes =
      refuse 2 0 (not (dimensions_in_range S.sizes.shape S.entries))
      otherwise refuse 3 0 (not (eqb bytes (sheet_length S.entries)))
      otherwise refuse 4 0 (not (parameters_in_range S.sizes))

  -- T7.4, refusal 5, at the first such entry
  unfoldable pub key_refusal : Option Numbered
  key_refusal = first_below S.entries (λ i. refuse 5 i (bad_key i))

  -- T7.4, refusal 6, at the first such entry
  unfoldable pub value_refusal : Option Numbered
  value_refusal = first_below S.entries (λ i. refuse 6 i (bad_value i))

-- T7.3, refusals 1 to 7 of a sheet's bytes by number, each tested over all of it before the next. T7.5: a sheet is read
-- where there is none.
unfoldable pub layout_refusal : List ℕ → Option Numbered
layout_refusal s =
    let S = sheet_of s in
    refuse 1 0 (ltb (length s) header_length)
    otherwise sizes_refusal S (length s)
    otherwise key_refusal S
    otherwise value_refusal S
    otherwise bound_refusal S.sizes.shape (table_of S)
