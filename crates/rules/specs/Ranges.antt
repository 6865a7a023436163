-- TASK.md, T3.2 and T2.6: the table of ranges, and the ranges of the sizes.
use Rattle.std.specs.Prelude.{ℕ, zero, suc, ◌+◌, ◌*◌, Bool, cond, ◌&&◌, List, [], ◌∷◌, get_or, ℤ, pos, leb, eqb}
use Rattle.std.specs.Int.Signed.{le_z}
use Rattle.rules.specs.Notation.{neg}
use Rattle.rules.specs.declared.Kind.{Kind}
use Rattle.rules.specs.declared.Kind.TheVariants.{Cost, Least, Most, Coefficient, Rhs, Start}
use Rattle.rules.specs.declared.Range.{Range}
use Rattle.rules.specs.declared.Shape.{Shape}
use Rattle.rules.specs.declared.Sizes.{Sizes}

-- a row of the table: a kind of figure, its least and its greatest value
infix 70 ◌from◌to◌
abbrev pub ◌from◌to◌ : Kind → ℤ → ℤ → Range
kind from least to greatest = record { kind = kind; least = least; greatest = greatest }

-- T3.2, the table of ranges.
unfoldable pub ranges : List Range
ranges =
    -- row 0: c_j
    Cost from neg 10000 to pos 10000 ∷
    -- row 1: l_j
    Least from pos 1 to pos 1000 ∷
    -- row 2: u_j
    Most from pos 1 to pos 1000 ∷
    -- row 3 + i, column j below n: a_ij
    Coefficient from neg 1000 to pos 1000 ∷
    -- row 3 + i, column n: b_i
    Rhs from neg 32000000 to pos 32000000 ∷
    -- row 3 + i, column n + 1: s_i
    Start from pos 1 to pos 1073741824 ∷
    []

-- where a kind of figure stands in the table
unfoldable pub index_of : Kind → ℕ
index_of Cost = 0
index_of Least = 1
index_of Most = 2
index_of Coefficient = 3
index_of Rhs = 4
index_of Start = 5

-- the range of a kind of figure
unfoldable pub range_of : Kind → Range
range_of kind = get_or ranges (index_of kind) (Cost from pos 0 to pos 0)

-- T3.2, the kind of figure at a row and a column
unfoldable pub kind_at : Shape → ℕ → ℕ → Kind
kind_at shape zero column = Cost
kind_at shape (suc zero) column = Least
kind_at shape (suc (suc zero)) column = Most
kind_at shape (suc (suc (suc i))) column =
    let n = shape.materials in
    cond (eqb column n) Rhs (cond (eqb column (n + 1)) Start Coefficient)

-- does a value lie in a range?
unfoldable pub in_range : Range → ℤ → Bool
in_range r v = le_z r.least v && le_z v r.greatest

-- does a size lie from its least to its greatest?
unfoldable pub between : ℕ → ℕ → ℕ → Bool
between least greatest x = leb least x && leb x greatest

-- T2.6, the most entries that n and m allow: n(m+3)+2m
abbrev pub most_entries : Shape → ℕ
most_entries shape = shape.materials * (shape.limits + 3) + 2 * shape.limits

-- T2.6, the largest shape
abbrev pub largest : Shape
largest = record { materials = 32; limits = 16 }

-- T2.6, are n, m and e in their ranges?
unfoldable pub dimensions_in_range : Shape → ℕ → Bool
dimensions_in_range shape e =
    between 1 largest.materials shape.materials
    && between 0 largest.limits shape.limits
    && between 0 (most_entries shape) e

-- T2.6, are p, D and k in their ranges?
unfoldable pub parameters_in_range : Sizes → Bool
parameters_in_range z = between 1 1024 z.numerator && between 1 1024 z.scale && between 1 4096 z.steps
