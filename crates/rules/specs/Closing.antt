-- TASK.md, T11.5: sheets that settle the closing look, L1 to L7, in one table, with one proof that the definitions give
-- it.
use Rattle.std.specs.Prelude.{ℕ, ◌≡◌, refl, List, [], ◌∷◌, ◌++◌, map, ℤ, pos, Ok, Err}
use Rattle.rules.specs.Notation.{neg}
use Rattle.rules.specs.declared.Cause.TheVariants.{Infeasible}
use Rattle.rules.specs.Sheet.{sheet_of, problem}
use Rattle.rules.specs.Run.{look_after, closing_value}
use Rattle.rules.specs.Listing.{text}
use Rattle.rules.specs.Rows.{Entry, ◌∶◌, encode, hex, Row, Holds, AllHold, ◌and◌}
use Rattle.rules.specs.Marked.{entries-C1}

-- C1 with k 3: low is the value of step 1, 104, and neither that of the last step, 68, nor the closing value. After
-- steps 0 to 2 of C1, M = 0; r = 24, 8; x = 0, 0; g = 12; V = 0. S = 10, 20; G = 12 + 2 − 18 = −4;
-- gap 8·(30 + 20) − 3·104 = 88.
abbrev pub L1 : Row
L1 = record {
  sheet = encode 2 1 1 8 3 entries-C1;
  room = 43;
  answer = Ok (record { low = pos 104; gap = pos 88 });
  bytes = hex "0200 0100 0300 6800000000000000 5800000000000000 0a000000 14000000 00000000 fcffffffffffffff";
  listing = text "steps 3\nmat 0 10\nmat 1 20\nlim 0 0 -4\nlow 104\ngap 88\n";
}

abbrev entries-L2 : List Entry
entries-L2 = 0 ∶ pos 8 ∷ 128 ∶ pos 1 ∷ 192 ∶ neg 1 ∷ 193 ∶ neg 2 ∷ []

-- The closing value is the largest, and as large as the greatest cost, which refuses nothing. k = 2: cost 8, most 1,
-- −x ≤ −2. By hand:
-- step 0: M = 0; r = 8; x = 0; g = 2; V = 0.
-- step 1: M = 2; r = 8 − 2; x = 0; g = 2; V = 4.
-- closing look: M = 4; r = 8 − 4; x = 0; g = 2; V = 8, and the greatest cost is 8.
-- S = 0; G = 4; low 8; gap 0 − 2·8 = −16.
abbrev pub L2 : Row
L2 = record {
  sheet = encode 1 1 1 1 2 entries-L2;
  room = 38;
  answer = Ok (record { low = pos 8; gap = neg 16 });
  bytes = hex "0100 0100 0200 0800000000000000 f0ffffffffffffff 00000000 04000000 0400000000000000";
  listing = text "steps 2\nmat 0 0\nlim 0 4 4\nlow 8\ngap -16\n";
}

-- L2 with k 3: step 2 is that closing look, and is not refused. Then M = 6; r = 8 − 6; x = 0; g = 2; V = 12, above 8:
-- refused 9 at 3, by the closing look alone
abbrev pub L3 : Row
L3 = record {
  sheet = encode 1 1 1 1 3 entries-L2;
  room = 38;
  answer = Err (record { place = 3; cause = Infeasible });
  bytes = [];
  listing = text "refused 9 3\n";
}

-- C2 with p 2. Step 0 is that of C2, with the value 0, and M = 24. Closing look: r = 24 − 48, 8 − 24; x = 10, 10;
-- g = 12 − 30 = −18; V = 320 − 24·18 = −112. S = 0, 0; G = 12; low 0; gap 0. T9.5 and T9.6 are equations (Points).
abbrev pub L4 : Row
L4 = record {
  sheet = encode 2 1 2 8 1 entries-C1;
  room = 42;
  answer = Ok (record { low = pos 0; gap = pos 0 });
  bytes = hex "0200 0100 0100 0000000000000000 0000000000000000 00000000 00000000 18000000 0c00000000000000";
  listing = text "steps 1\nmat 0 0\nmat 1 0\nlim 0 24 12\nlow 0\ngap 0\n";
}

-- A gap that is not 0, with T9.5 and T9.6 as equations. p = 4, D = 6, k = 2: cost 3, most 2, −3·x ≤ −3. By hand:
-- step 0: M = 0; r = 18; x = 0; g = 3; V = 0.
-- step 1: M = 12; r = 18 − 36 = −18; x = 2; g = −6 + 3 = −3; V = 36 − 36 = 0.
-- closing look: M = 12 − 12 = 0, and all is as in step 0.
-- S = 2; G = 0; low 0; gap 6·6 − 2·0 = 36.
abbrev pub L5 : Row
L5 = record {
  sheet = encode 1 1 4 6 2 (0 ∶ pos 3 ∷ 128 ∶ pos 2 ∷ 192 ∶ neg 3 ∷ 193 ∶ neg 3 ∷ []);
  room = 38;
  answer = Ok (record { low = pos 0; gap = pos 36 });
  bytes = hex "0100 0100 0200 0000000000000000 2400000000000000 02000000 00000000 0000000000000000";
  listing = text "steps 2\nmat 0 2\nlim 0 0 0\nlow 0\ngap 36\n";
}

-- With a start, and T9.5 and T9.6 as equations: S7 with p 2 and the start 4. By hand:
-- step 0: M = 4; r = 6 − 8 = −2; x = 2; g = −4 + 3 = −1; V = 12 − 4 = 8.
-- closing look: M = 4 − 2 = 2; r = 6 − 4; x = 0; g = 3; V = 6.
-- S = 2; G = −1; low 8; gap 6·2 − 8 = 4.
abbrev pub L6 : Row
L6 = record {
  sheet = encode 1 1 2 6 1 (0 ∶ pos 1 ∷ 128 ∶ pos 2 ∷ 192 ∶ neg 2 ∷ 193 ∶ neg 3 ∷ 194 ∶ pos 4 ∷ []);
  room = 38;
  answer = Ok (record { low = pos 8; gap = pos 4 });
  bytes = hex "0100 0100 0100 0800000000000000 0400000000000000 02000000 02000000 ffffffffffffffff";
  listing = text "steps 1\nmat 0 2\nlim 0 2 -1\nlow 8\ngap 4\n";
}

-- The greatest multiplier at the end. Refusal 10 is not looked for at the closing look, from which a further step would
-- lead to 2^30 + 1. D = 1,024: cost 10,000, most 1,000, 0 ≤ −1, start 2^30 − 1. By hand:
-- step 0: M = 2^30 − 1; r = 10,240,000; x = 0; g = 1; V = 2^30 − 1.
-- closing look: M = 2^30; the same r, x and g; V = 2^30, and 1,024 times the greatest cost is 10,240,000,000.
-- S = 0; G = 1; low 2^30; gap 0 − 2^30.
abbrev pub L7 : Row
L7 = record {
  sheet = encode 1 1 1 1024 1 (0 ∶ pos 10000 ∷ 128 ∶ pos 1000 ∷ 193 ∶ neg 1 ∷ 194 ∶ pos 1073741823 ∷ []);
  room = 38;
  answer = Ok (record { low = pos 1073741824; gap = neg 1073741824 });
  bytes = hex "0100 0100 0100 0000004000000000 000000c0ffffffff 00000000 00000040 0100000000000000";
  listing = text "steps 1\nmat 0 0\nlim 0 1073741824 1\nlow 1073741824\ngap -1073741824\n";
}

-- T11.5, L1 to L7
abbrev pub table : List Row
table = L1 ∷ L2 ∷ L3 ∷ L4 ∷ L5 ∷ L6 ∷ L7 ∷ []

-- They follow from the definitions.
pub closing : AllHold table
unfolding Holds AllHold
closing =
    (refl, refl, refl, refl)
    and (refl, refl, refl, refl)
    and (refl, refl, refl, refl)
    and (refl, refl, refl, refl)
    and (refl, refl, refl, refl)
    and (refl, refl, refl, refl)
    and (refl, refl, refl, refl)
    and tt

-- ---- their bytes: the six sizes, the keys, the values
pub bytes-are :
    map (λ r. r.sheet) table
    ≡ (hex "0200 0100 0700 0100 0800 0300  0000 0100 8000 8100 c000 c100 c200"
    ++ hex "03000000 01000000 0a000000 0a000000 feffffff ffffffff f4ffffff") ∷
    hex "0100 0100 0400 0100 0100 0200  0000 8000 c000 c100  08000000 01000000 ffffffff feffffff" ∷
    hex "0100 0100 0400 0100 0100 0300  0000 8000 c000 c100  08000000 01000000 ffffffff feffffff" ∷
    (hex "0200 0100 0700 0200 0800 0100  0000 0100 8000 8100 c000 c100 c200"
    ++ hex "03000000 01000000 0a000000 0a000000 feffffff ffffffff f4ffffff") ∷
    hex "0100 0100 0400 0400 0600 0200  0000 8000 c000 c100  03000000 02000000 fdffffff fdffffff" ∷
    hex "0100 0100 0500 0200 0600 0100  0000 8000 c000 c100 c200  01000000 02000000 feffffff fdffffff 04000000" ∷
    hex "0100 0100 0400 0100 0004 0100  0000 8000 c100 c200  10270000 e8030000 ffffffff ffffff3f" ∷
    []
unfolding Holds
bytes-are = refl

-- ---- the closing values, and those of the steps of L3
abbrev closing-of : Row → ℕ → ℤ
closing-of r = closing_value (problem (sheet_of r.sheet))

pub closing-values :
    closing-of L1 3 ∷ closing-of L2 2 ∷ closing-of L3 3 ∷ closing-of L4 1 ∷ closing-of L5 2 ∷ closing-of L6 1 ∷
    closing-of L7 1 ∷ []
    ≡ pos 0 ∷ pos 8 ∷ pos 12 ∷ neg 112 ∷ pos 0 ∷ pos 6 ∷ pos 1073741824 ∷ []
unfolding Holds
closing-values = refl

pub values-L3 :
    map (λ t. (look_after (problem (sheet_of L3.sheet)) t).dual_value) (0 ∷ 1 ∷ 2 ∷ []) ≡ pos 0 ∷ pos 4 ∷ pos 8 ∷ []
unfolding Holds
values-L3 = refl
