-- TASK.md, T13: a sheet written from figures in plain arrays.
use Rattle.std.specs.Prelude.{ℕ, ◌+◌, ◌-◌, ◌*◌, Bool, not, cond, ◌&&◌, List, length, ℤ, pos, eqb}
use Rattle.std.proofs.Math.Option.{Option}
use Rattle.rules.specs.Notation.{is_zero, any_below, at}
use Rattle.rules.specs.declared.Kind.{Kind}
use Rattle.rules.specs.declared.Kind.TheVariants.{Cost, Least, Most, Coefficient, Rhs, Start}
use Rattle.rules.specs.declared.Shape.{Shape}
use Rattle.rules.specs.declared.Sizes.{Sizes}
use Rattle.rules.specs.Sheet.{Table, row_of, column_of}
use Rattle.rules.specs.Ranges.{kind_at, dimensions_in_range, parameters_in_range}
use Rattle.rules.specs.Encoder.{all_keys, written}
use Rattle.rules.specs.Refusals.{Numbered, refuse, ◌otherwise◌, no_figure_at, value_bad, bound_refusal}
use Rattle.rules.specs.Output.{short_buffer}

-- T13.1, the figures of a sheet in plain arrays, 0 for those that are absent.
pub record Arrays : Type 0 where
  -- c_j
  pub costs : List ℤ
  -- l_j
  pub least_amounts : List ℤ
  -- u_j
  pub most_amounts : List ℤ
  -- a_ij, limit by limit
  pub coefficients : List ℤ
  -- b_i
  pub right_hand_sides : List ℤ
  -- s_i
  pub starts : List ℤ

-- six arrays, in this order
abbrev pub arrays : (costs least_amounts most_amounts coefficients right_hand_sides starts : List ℤ) → Arrays
arrays c l u a b s =
    record { costs = c; least_amounts = l; most_amounts = u; coefficients = a; right_hand_sides = b; starts = s }

module _ (shape : Shape) (A : Arrays) where
  -- T13.1, has each array as many figures as n and m say?
  unfoldable pub lengths_match : Bool
  lengths_match =
      let n = shape.materials in
      let m = shape.limits in
      eqb (length A.costs) n
      && eqb (length A.least_amounts) n
      && eqb (length A.most_amounts) n
      && eqb (length A.coefficients) (n * m)
      && eqb (length A.right_hand_sides) m
      && eqb (length A.starts) m

  -- T13.2, the figure of a kind that stands at a row and a column (T3.2)
  unfoldable pub figure_of : Kind → ℕ → ℕ → ℤ
  figure_of Cost row column = at A.costs column
  figure_of Least row column = at A.least_amounts column
  figure_of Most row column = at A.most_amounts column
  figure_of Coefficient row column = at A.coefficients (shape.materials * (row - 3) + column)
  figure_of Rhs row column = at A.right_hand_sides (row - 3)
  figure_of Start row column = at A.starts (row - 3)

  -- T13.2, the table of the arrays: 0 where the shape has no figure
  unfoldable pub gathered : Table
  gathered key =
      let row = row_of key in
      let column = column_of key in
      cond (no_figure_at shape row column) (pos 0) (figure_of (kind_at shape row column) row column)

-- T13.4, is the figure under a key neither 0 nor in its range?
unfoldable pub figure_bad : Shape → ℕ → ℤ → Bool
figure_bad shape key figure = not (is_zero figure) && value_bad shape key figure

-- T13.4, refusals 2, 4, 6 and 7 of sizes and a table, in this order
unfoldable pub table_refusal : Sizes → Table → Option Numbered
table_refusal z T =
    refuse 2 0 (not (dimensions_in_range z.shape 0))
    otherwise refuse 4 0 (not (parameters_in_range z))
    otherwise refuse 6 0 (any_below all_keys (λ key. figure_bad z.shape key (T key)))
    otherwise bound_refusal z.shape T

module _ (z : Sizes) (A : Arrays) where
  -- T13.3, the bytes of the sheet
  unfoldable pub sheet_from : List ℕ
  sheet_from = written z (gathered z.shape A)

  -- T13.4, refusals 2, 4, 6 and 7 of the arrays
  unfoldable pub arrays_refusal : Option Numbered
  arrays_refusal = refuse 2 0 (not (lengths_match z.shape A)) otherwise table_refusal z (gathered z.shape A)

  -- T13.4, what writing the sheet to a buffer of `room` bytes is refused with, if anything
  unfoldable pub write_refusal : ℕ → Option Numbered
  write_refusal room = arrays_refusal otherwise short_buffer 8 sheet_from room
