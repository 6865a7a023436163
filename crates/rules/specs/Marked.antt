-- TASK.md, T11: C1 to C10 in one table, with one proof that the definitions give it.
use Rattle.std.specs.Prelude.{◌≡◌, refl, ℕ, List, [], ◌∷◌, ◌++◌, map, pos, Ok, Err}
use Rattle.rules.specs.Notation.{neg, at}
use Rattle.rules.specs.declared.Cause.TheVariants.{Bounds, Infeasible, Diverged}
use Rattle.rules.specs.Problem.{Problem}
use Rattle.rules.specs.Sheet.{sized, sheet_of, problem}
use Rattle.rules.specs.Encoder.{written}
use Rattle.rules.specs.Step.{reduced_cost, greatest_cost, cheapest_cost}
use Rattle.rules.specs.Run.{state_after, look_after, closing_value}
use Rattle.rules.specs.Listing.{text}
use Rattle.rules.specs.Rows.{Entry, ◌∶◌, entered, encode, hex, Row, Holds, AllHold, ◌and◌}

abbrev pub entries-C1 : List Entry
entries-C1 = 0 ∶ pos 3 ∷ 1 ∶ pos 1 ∷ 128 ∶ pos 10 ∷ 129 ∶ pos 10 ∷ 192 ∶ neg 2 ∷ 193 ∶ neg 1 ∷ 194 ∶ neg 12 ∷ []

-- T11.1 goes through its steps
abbrev pub C1 : Row
C1 = record {
  sheet = encode 2 1 1 8 4 entries-C1;
  room = 44;
  answer = Ok (record { low = pos 104; gap = neg 16 });
  bytes = hex "0200 0100 0400 6800000000000000 f0ffffffffffffff 0a000000 14000000 0c000000 0800000000000000";
  listing = text "steps 4\nmat 0 10\nmat 1 20\nlim 0 12 8\nlow 104\ngap -16\n";
}

-- C1 with k 1: the closing value is that of step 1 of C1, 104
abbrev pub C2 : Row
C2 = record {
  sheet = encode 2 1 1 8 1 entries-C1;
  room = 42;
  answer = Ok (record { low = pos 104; gap = neg 104 });
  bytes = hex "0200 0100 0100 6800000000000000 98ffffffffffffff 00000000 00000000 0c000000 0c00000000000000";
  listing = text "steps 1\nmat 0 0\nmat 1 0\nlim 0 12 12\nlow 104\ngap -104\n";
}

abbrev pub entries-C3 : List Entry
entries-C3 = 0 ∶ pos 1 ∷ 128 ∶ pos 1 ∷ 192 ∶ neg 1 ∷ 193 ∶ neg 5 ∷ []

-- refused 9 at 1: the dual value is 21, the greatest cost 1
abbrev pub C3 : Row
C3 = record {
  sheet = encode 1 1 1 1 2 entries-C3;
  room = 38;
  answer = Err (record { place = 1; cause = Infeasible });
  bytes = [];
  listing = text "refused 9 1\n";
}

-- C3 with k 1: the closing look is that of step 1 of C3, and so is its refusal
abbrev pub C4 : Row
C4 = record {
  sheet = encode 1 1 1 1 1 entries-C3;
  room = 40;
  answer = Err (record { place = 1; cause = Infeasible });
  bytes = [];
  listing = text "refused 9 1\n";
}

-- refused 10 at 0: the multiplier would be 1,073,742,848. The closing look, which would be refused with 9, comes after
abbrev pub C5 : Row
C5 = record {
  sheet = encode 1 1 1024 1 1 (193 ∶ neg 1048577 ∷ []);
  room = 38;
  answer = Err (record { place = 0; cause = Diverged });
  bytes = [];
  listing = text "refused 10 0\n";
}

-- C5 with −1,048,576: the multiplier is 1,073,741,824, which 10 allows, and the closing value 2^30·2^20, above 0
abbrev pub C6 : Row
C6 = record {
  sheet = encode 1 1 1024 1 1 (193 ∶ neg 1048576 ∷ []);
  room = 38;
  answer = Err (record { place = 1; cause = Infeasible });
  bytes = [];
  listing = text "refused 9 1\n";
}

-- no entries
abbrev pub C7 : Row
C7 = record {
  sheet = encode 1 0 1 1 1 [];
  room = 26;
  answer = Ok (record { low = pos 0; gap = pos 0 });
  bytes = hex "0100 0000 0100 0000000000000000 0000000000000000 00000000";
  listing = text "steps 1\nmat 0 0\nlow 0\ngap 0\n";
}

-- a negative low
abbrev pub C8 : Row
C8 = record {
  sheet = encode 1 0 1 1 2 (0 ∶ neg 2 ∷ 128 ∶ pos 3 ∷ []);
  room = 27;
  answer = Ok (record { low = neg 6; gap = pos 0 });
  bytes = hex "0100 0000 0200 faffffffffffffff 0000000000000000 06000000";
  listing = text "steps 2\nmat 0 6\nlow -6\ngap 0\n";
}

-- a least amount
abbrev pub C9 : Row
C9 = record {
  sheet = encode 1 0 1 1 1 (0 ∶ pos 5 ∷ 64 ∶ pos 4 ∷ 128 ∶ pos 4 ∷ []);
  room = 26;
  answer = Ok (record { low = pos 20; gap = pos 0 });
  bytes = hex "0100 0000 0100 1400000000000000 0000000000000000 04000000";
  listing = text "steps 1\nmat 0 4\nlow 20\ngap 0\n";
}

-- least above most
abbrev pub C10 : Row
C10 = record {
  sheet = encode 1 0 1 1 1 (64 ∶ pos 4 ∷ 128 ∶ pos 3 ∷ []);
  room = 26;
  answer = Err (record { place = 0; cause = Bounds });
  bytes = [];
  listing = text "refused 7 0\n";
}

-- T11.2, C1 to C10
abbrev pub table : List Row
table = C1 ∷ C2 ∷ C3 ∷ C4 ∷ C5 ∷ C6 ∷ C7 ∷ C8 ∷ C9 ∷ C10 ∷ []

-- They follow from the definitions.
pub marked : AllHold table
unfolding Holds AllHold
marked =
    (refl, refl, refl, refl)
    and (refl, refl, refl, refl)
    and (refl, refl, refl, refl)
    and (refl, refl, refl, refl)
    and (refl, refl, refl, refl)
    and (refl, refl, refl, refl)
    and (refl, refl, refl, refl)
    and (refl, refl, refl, refl)
    and (refl, refl, refl, refl)
    and (refl, refl, refl, refl)
    and tt

-- ---- their bytes: the six sizes, the keys, the values
abbrev pub sheets : List (List ℕ)
sheets =
    (hex "0200 0100 0700 0100 0800 0400  0000 0100 8000 8100 c000 c100 c200"
    ++ hex "03000000 01000000 0a000000 0a000000 feffffff ffffffff f4ffffff") ∷
    (hex "0200 0100 0700 0100 0800 0100  0000 0100 8000 8100 c000 c100 c200"
    ++ hex "03000000 01000000 0a000000 0a000000 feffffff ffffffff f4ffffff") ∷
    hex "0100 0100 0400 0100 0100 0200  0000 8000 c000 c100  01000000 01000000 ffffffff fbffffff" ∷
    hex "0100 0100 0400 0100 0100 0100  0000 8000 c000 c100  01000000 01000000 ffffffff fbffffff" ∷
    hex "0100 0100 0100 0004 0100 0100  c100  ffffefff" ∷
    hex "0100 0100 0100 0004 0100 0100  c100  0000f0ff" ∷
    hex "0100 0000 0000 0100 0100 0100" ∷
    hex "0100 0000 0200 0100 0100 0200  0000 8000  feffffff 03000000" ∷
    hex "0100 0000 0300 0100 0100 0100  0000 4000 8000  05000000 04000000 04000000" ∷
    hex "0100 0000 0200 0100 0100 0100  4000 8000  04000000 03000000" ∷
    []

pub bytes-are : map (λ r. r.sheet) table ≡ sheets
unfolding Holds
bytes-are = refl

-- They are what is written of their sizes and tables: a table has no order, and a figure of 0 has no entry.
pub encoded :
    written (sized 2 1 1 8 4) (entered entries-C1) ∷
    written (sized 2 1 1 8 1) (entered (64 ∶ pos 0 ∷ entries-C1)) ∷
    written (sized 1 1 1 1 2) (entered entries-C3) ∷
    written (sized 1 1 1 1 1) (entered (193 ∶ neg 5 ∷ 192 ∶ neg 1 ∷ 128 ∶ pos 1 ∷ 0 ∶ pos 1 ∷ [])) ∷
    written (sized 1 1 1024 1 1) (entered (193 ∶ neg 1048577 ∷ [])) ∷
    written (sized 1 1 1024 1 1) (entered (193 ∶ neg 1048576 ∷ [])) ∷
    written (sized 1 0 1 1 1) (entered []) ∷
    written (sized 1 0 1 1 2) (entered (128 ∶ pos 3 ∷ 0 ∶ neg 2 ∷ [])) ∷
    written (sized 1 0 1 1 1) (entered (128 ∶ pos 4 ∷ 64 ∶ pos 4 ∷ 0 ∶ pos 5 ∷ [])) ∷
    written (sized 1 0 1 1 1) (entered (64 ∶ pos 4 ∷ 128 ∶ pos 3 ∷ [])) ∷
    []
    ≡ sheets
unfolding Holds
encoded = refl

-- ---- what T11 says of the steps of C1 and C3

abbrev problem-C1 : Problem
problem-C1 = problem (sheet_of C1.sheet)

pub multipliers-C1 :
    map (λ t. at (state_after problem-C1 t).multipliers 0) (0 ∷ 1 ∷ 2 ∷ 3 ∷ 4 ∷ [])
    ≡ pos 0 ∷ pos 12 ∷ pos 14 ∷ pos 0 ∷ pos 12 ∷ []
unfolding Holds
multipliers-C1 = refl

pub values-C1 :
    map (λ t. (look_after problem-C1 t).dual_value) (0 ∷ 1 ∷ 2 ∷ 3 ∷ []) ≡ pos 0 ∷ pos 104 ∷ pos 68 ∷ pos 0 ∷ []
unfolding Holds
values-C1 = refl

-- the closing value, which is as large as low
pub closing-C1 : closing_value problem-C1 4 ≡ pos 104
unfolding Holds
closing-C1 = refl

-- the tie: at step 1 the reduced cost of material 0 is 0
pub tie-C1 : reduced_cost problem-C1 (at (state_after problem-C1 1).multipliers) 0 ≡ pos 0
unfolding Holds
tie-C1 = refl

abbrev problem-C3 : Problem
problem-C3 = problem (sheet_of C3.sheet)

pub value-C3 : (look_after problem-C3 1).dual_value ≡ pos 21
unfolding Holds
value-C3 = refl

pub greatest-C3 : greatest_cost problem-C3 ≡ pos 1
unfolding Holds
greatest-C3 = refl

-- the cheapest cost that the bounds of C8 allow, which is its low
pub cheapest-C8 : cheapest_cost (problem (sheet_of C8.sheet)) ≡ neg 6
unfolding Holds
cheapest-C8 = refl
