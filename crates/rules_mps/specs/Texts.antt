-- TASK.md, T11.6: worked texts and refusals in one table, with one proof that the definitions give it.
use Rattle.std.specs.Prelude.{ℕ, ◌≡◌, refl, List, [], ◌∷◌, ◌++◌, length, drop, pos, Result, Ok, Err}
use Rattle.rules.specs.declared.Cause.{Cause}
use Rattle.rules.specs.declared.Cause.TheVariants.{Key, Bounds, Text}
use Rattle.rules.specs.declared.Refusal.{Refusal}
use Rattle.rules.specs.Notation.{neg}
use Rattle.rules.specs.Problem.{Problem}
use Rattle.rules.specs.Output.{writing, writing_of, lent_after, short_buffer}
use Rattle.rules.specs.Listing.{text}
use Rattle.rules.specs.Rows.{◌∶◌, encode, lent, Holds, ◌and◌}
use Rattle.rules.specs.Marked.{C1, C7, C10}
use Rattle.rules.specs.Started.{S1}
use Rattle.rules_mps.specs.Mps.{material_name, limit_name, fields, unless_zero, row_line, cost_line, coefficient_line}
use Rattle.rules_mps.specs.Mps.{column_lines, rhs_line, bound_lines, mps_text, mps_of, mps_refusal, longest_mps}
use Rattle.rules_mps.specs.Mps.{printed_of, mps_printed}

-- A sheet and the length of the lent buffer; and what must come out: the answer, the bytes that are written (none for a
-- refusal), and what batchmps prints.
pub record Export : Type 0 where
  pub sheet : List ℕ
  pub room : ℕ
  pub output : Result ℕ Refusal
  pub bytes : List ℕ
  pub printed : List ℕ

-- a sheet, a buffer and the text that is written and printed
abbrev pub writes : List ℕ → ℕ → List ℕ → Export
writes s room t = record { sheet = s; room = room; output = Ok (length t); bytes = t; printed = t }

-- a sheet, a buffer, the refusal and what is printed
abbrev pub refuses : List ℕ → ℕ → Cause → ℕ → List ℕ → Export
refuses s room cause place t = record {
  sheet = s;
  room = room;
  output = Err (record { place = place; cause = cause });
  bytes = [];
  printed = t;
}

-- What the definitions give is what the row says: the answer, the buffer afterwards, and what is printed.
unfoldable pub Exported : Export → Type 0
unfolding
    Holds material_name limit_name fields unless_zero row_line cost_line coefficient_line column_lines rhs_line
    bound_lines mps_text mps_of mps_refusal printed_of mps_printed writing writing_of lent_after short_buffer
Exported r =
    let t = mps_of r.sheet in
    (writing_of t (mps_refusal r.sheet r.room) ≡ writing r.output) ×
    (lent_after t (lent r.room) (writing r.output) ≡ r.bytes ++ drop (length r.bytes) (lent r.room)) ×
    (mps_printed r.sheet ≡ r.printed)

-- every row of a table
unfoldable pub AllExported : List Export → Type 0
AllExported [] = Unit {0}
AllExported (r ∷ rs) = Exported r × AllExported rs

-- ---- texts

abbrev text-C1 : List ℕ
text-C1 =
    text "NAME SHEET\nROWS\n N COST\n L L0\nCOLUMNS\n X0 COST 3\n X0 L0 -2\n X1 COST 1\n X1 L0 -1\nRHS\n RHS L0 -12\n"
    ++ text "BOUNDS\n LO BND X0 0\n UP BND X0 10\n LO BND X1 0\n UP BND X1 10\nENDATA\n"

-- one material without cost and bounds, and no limit
abbrev text-C7 : List ℕ
text-C7 = text "NAME SHEET\nROWS\n N COST\nCOLUMNS\n X0 COST 0\nRHS\nBOUNDS\n LO BND X0 0\n UP BND X0 0\nENDATA\n"

-- two limits, a coefficient of 0 among others, and a start that is not carried
abbrev text-W2 : List ℕ
text-W2 =
    text "NAME SHEET\nROWS\n N COST\n L L0\n L L1\nCOLUMNS\n X0 COST 3\n X0 L0 6\n X0 L1 2\n X1 COST -1\n"
    ++ text " X1 L1 -7\nRHS\n RHS L0 8\n RHS L1 -9\nBOUNDS\n LO BND X0 1\n UP BND X0 4\n LO BND X1 0\n UP BND X1 5\n"
    ++ text "ENDATA\n"

abbrev sheet-W2 : List ℕ
sheet-W2 =
    encode 2 2 5 6 7
    (0 ∶ pos 3 ∷ 1 ∶ neg 1 ∷ 64 ∶ pos 1 ∷ 128 ∶ pos 4 ∷ 129 ∶ pos 5 ∷ 192 ∶ pos 6 ∷ 194 ∶ pos 8
    ∷ 256 ∶ pos 2 ∷ 257 ∶ neg 7 ∷ 258 ∶ neg 9 ∷ 259 ∶ pos 10 ∷ [])

-- M1: names of two digits; every figure of material 10 and limit 10 is as long as it can be, and all others are 0
abbrev text-M1 : List ℕ
text-M1 =
    text "NAME SHEET\nROWS\n N COST\n L L0\n L L1\n L L2\n L L3\n L L4\n L L5\n L L6\n L L7\n L L8\n L L9\n"
    ++ text " L L10\n"
    ++ text "COLUMNS\n X0 COST 0\n X1 COST 0\n X2 COST 0\n X3 COST 0\n X4 COST 0\n X5 COST 0\n X6 COST 0\n"
    ++ text " X7 COST 0\n X8 COST 0\n X9 COST 0\n X10 COST -10000\n X10 L10 -1000\n"
    ++ text "RHS\n RHS L10 -32000000\nBOUNDS\n LO BND X0 0\n UP BND X0 0\n LO BND X1 0\n UP BND X1 0\n LO BND X2 0\n"
    ++ text " UP BND X2 0\n LO BND X3 0\n UP BND X3 0\n LO BND X4 0\n UP BND X4 0\n LO BND X5 0\n UP BND X5 0\n"
    ++ text " LO BND X6 0\n UP BND X6 0\n LO BND X7 0\n UP BND X7 0\n LO BND X8 0\n UP BND X8 0\n LO BND X9 0\n"
    ++ text " UP BND X9 0\n LO BND X10 1000\n UP BND X10 1000\nENDATA\n"

abbrev sheet-M1 : List ℕ
sheet-M1 =
    encode 11 11 1 1 1
    (10 ∶ neg 10000 ∷ 74 ∶ pos 1000 ∷ 138 ∶ pos 1000 ∷ 842 ∶ neg 1000 ∷ 843 ∶ neg 32000000 ∷ [])

-- M2: more limits than materials, of which one has a coefficient alone, and one a right-hand side
abbrev text-M2 : List ℕ
text-M2 =
    text "NAME SHEET\nROWS\n N COST\n L L0\n L L1\n L L2\nCOLUMNS\n X0 COST -1\n X0 L1 -1\nRHS\n RHS L2 -1\nBOUNDS\n"
    ++ text " LO BND X0 0\n UP BND X0 1\nENDATA\n"

abbrev sheet-M2 : List ℕ
sheet-M2 = encode 1 3 1 1 1 (0 ∶ neg 1 ∷ 128 ∶ pos 1 ∷ 256 ∶ neg 1 ∷ 321 ∶ neg 1 ∷ [])

-- M3: all figures are 0
abbrev text-M3 : List ℕ
text-M3 =
    text "NAME SHEET\nROWS\n N COST\n L L0\n L L1\nCOLUMNS\n X0 COST 0\n X1 COST 0\nRHS\nBOUNDS\n"
    ++ text " LO BND X0 0\n UP BND X0 0\n LO BND X1 0\n UP BND X1 0\nENDATA\n"

-- T11.6, the table: texts in buffers that just take them, or more; and refusals
abbrev pub table : List Export
table =
    writes C1.sheet 170 text-C1 ∷
    writes S1.sheet 164 text-C1 ∷
    writes C7.sheet 87 text-C7 ∷
    writes sheet-W2 300 text-W2 ∷
    writes sheet-M1 572 text-M1 ∷
    writes sheet-M2 127 text-M2 ∷
    writes (encode 2 2 1 1 1 []) 137 text-M3 ∷
    refuses C1.sheet 163 Text 164 text-C1 ∷
    refuses C7.sheet 0 Text 87 text-C7 ∷
    -- 7 and 5 before 11, with their places
    refuses C10.sheet 0 Bounds 0 (text "refused 7 0\n") ∷
    refuses (encode 2 0 1 1 1 (1 ∶ pos 1 ∷ 1 ∶ pos 1 ∷ [])) 9 Key 1 (text "refused 5 1\n") ∷
    []

-- All of them hold.
pub texts : AllExported table
unfolding AllExported Exported
texts =
    (refl, refl, refl) and (refl, refl, refl) and (refl, refl, refl) and (refl, refl, refl)
    and (refl, refl, refl) and (refl, refl, refl) and (refl, refl, refl) and (refl, refl, refl)
    and (refl, refl, refl) and (refl, refl, refl) and (refl, refl, refl) and tt

-- ---- the longest text

-- T14.7, every figure of the largest sizes is as long as it can be
abbrev widest : Problem
widest = record {
  materials = 32;
  limits = 16;
  numerator = 1;
  scale = 1;
  cost = λ _. neg 10000;
  least = λ _. pos 1000;
  most = λ _. pos 1000;
  coefficient = λ _ _. neg 1000;
  rhs = λ _. neg 32000000;
  starting_multiplier = λ _. pos 0;
}

pub longest : length (mps_text widest) ≡ longest_mps
unfolding Exported longest_mps
longest = refl
