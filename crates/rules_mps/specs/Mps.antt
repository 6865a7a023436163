-- TASK.md, T14: a sheet as free MPS.
use Rattle.std.specs.Prelude.{ℕ, cond, List, [], ◌∷◌, ◌++◌, ℤ, pos}
use Rattle.std.proofs.Math.Option.{Option, none, some}
use Rattle.rules.specs.Notation.{is_zero}
use Rattle.rules.specs.Problem.{Problem}
use Rattle.rules.specs.Sheet.{sheet_of, problem}
use Rattle.rules.specs.Refusals.{Numbered, ◌otherwise◌, layout_refusal}
use Rattle.rules.specs.Output.{short_buffer}
use Rattle.rules.specs.Listing.{text, decimal, lines, refusal_text}

-- ---- names and lines

-- T14.2, the name of material j
unfoldable pub material_name : ℕ → List ℕ
material_name j = text "X" ++ decimal (pos j)

-- T14.2, the name of limit i
unfoldable pub limit_name : ℕ → List ℕ
limit_name i = text "L" ++ decimal (pos i)

-- T14.2, a line of fields, each after one space
unfoldable pub fields : List (List ℕ) → List ℕ
fields [] = text "\n"
fields (word ∷ words) = text " " ++ word ++ fields words

-- T14.4, the line of a figure; a figure of 0 has none
unfoldable pub unless_zero : ℤ → List ℕ → List ℕ
unless_zero v line = cond (is_zero v) [] line

-- ---- the lines of a section, by material and limit

-- T14.3, limit i in ROWS
unfoldable pub row_line : ℕ → List ℕ
row_line i = fields (text "L" ∷ limit_name i ∷ [])

-- T14.3, the cost c of material j in COLUMNS
unfoldable pub cost_line : ℕ → ℤ → List ℕ
cost_line j c = fields (material_name j ∷ text "COST" ∷ decimal c ∷ [])

-- T14.3, the coefficient a of material j and limit i in COLUMNS
unfoldable pub coefficient_line : ℕ → ℕ → ℤ → List ℕ
coefficient_line j i a = unless_zero a (fields (material_name j ∷ limit_name i ∷ decimal a ∷ []))

-- T14.3, all that COLUMNS has of material j: its cost c, and then its coefficient a i for each of m limits
unfoldable pub column_lines : ℕ → ℕ → ℤ → (ℕ → ℤ) → List ℕ
column_lines j m c a = cost_line j c ++ lines m (λ i. coefficient_line j i (a i))

-- T14.3, the right-hand side b of limit i in RHS
unfoldable pub rhs_line : ℕ → ℤ → List ℕ
rhs_line i b = unless_zero b (fields (text "RHS" ∷ limit_name i ∷ decimal b ∷ []))

-- T14.3, the least amount l and the most amount u of material j in BOUNDS
unfoldable pub bound_lines : ℕ → ℤ → ℤ → List ℕ
bound_lines j l u =
    fields (text "LO" ∷ text "BND" ∷ material_name j ∷ decimal l ∷ [])
    ++ fields (text "UP" ∷ text "BND" ∷ material_name j ∷ decimal u ∷ [])

-- ---- the text

-- T14.3, all lines. Neither steps nor starts are carried (T14.1).
unfoldable pub mps_text : Problem → List ℕ
mps_text P =
    let n = P.materials in
    let m = P.limits in
    text "NAME SHEET\n"
    ++ text "ROWS\n"
    ++ text " N COST\n"
    ++ lines m row_line
    ++ text "COLUMNS\n"
    ++ lines n (λ j. column_lines j m (P.cost j) (λ i. P.coefficient i j))
    ++ text "RHS\n"
    ++ lines m (λ i. rhs_line i (P.rhs i))
    ++ text "BOUNDS\n"
    ++ lines n (λ j. bound_lines j (P.least j) (P.most j))
    ++ text "ENDATA\n"

-- T14.3, the text of a sheet's bytes
unfoldable pub mps_of : List ℕ → List ℕ
mps_of s = mps_text (problem (sheet_of s))

-- T14.5, what writing it to a buffer of `room` bytes is refused with, if anything: 1 to 7, and then 11
unfoldable pub mps_refusal : List ℕ → ℕ → Option Numbered
mps_refusal s room = layout_refusal s otherwise short_buffer 11 (mps_of s) room

-- T14.7, the length of the longest text
unfoldable pub longest_mps : ℕ
longest_mps = 9248

-- T14.8, what is printed of a text and of the refusal of its sheet, if any
unfoldable pub printed_of : List ℕ → Option Numbered → List ℕ
printed_of t none = t
printed_of t (some r) = refusal_text r

-- T14.8, what batchmps prints
unfoldable pub mps_printed : List ℕ → List ℕ
mps_printed s = printed_of (mps_of s) (layout_refusal s)
