-- TASK.md, T11.3: sheets with starts, S1 to S9, in one table, with one proof that the definitions give it. S6 has the
-- largest sizes and takes long to compute: it stands in the crate `rules_largest`, where no edit pays for it.
use Rattle.std.specs.Prelude.{◌≡◌, refl, true, false, List, [], ◌∷◌, ◌++◌, map, pos, Ok, Err}
use Rattle.rules.specs.Notation.{neg, at}
use Rattle.rules.specs.declared.Cause.TheVariants.{Dimensions, Value, Infeasible}
use Rattle.rules.specs.declared.Kind.TheVariants.{Start}
use Rattle.rules.specs.Sheet.{sheet_of, problem}
use Rattle.rules.specs.Ranges.{range_of, in_range}
use Rattle.rules.specs.Run.{state_after, look_after}
use Rattle.rules.specs.Listing.{text}
use Rattle.rules.specs.Rows.{◌∶◌, encode, hex, Row, Holds, AllHold, ◌and◌}
use Rattle.rules.specs.Marked.{entries-C1, entries-C3}

-- C1 goes on where it ended, at 12; T11.3 goes through its steps
abbrev pub S1 : Row
S1 = record {
  sheet = encode 2 1 1 8 4 (entries-C1 ++ (195 ∶ pos 12 ∷ []));
  room = 42;
  answer = Ok (record { low = pos 104; gap = pos 64 });
  bytes = hex "0200 0100 0400 6800000000000000 4000000000000000 0a000000 1e000000 0e000000 feffffffffffffff";
  listing = text "steps 4\nmat 0 10\nmat 1 30\nlim 0 14 -2\nlow 104\ngap 64\n";
}

-- C4 with 5, to which its one step leads, as the start. Refused 9 at 0: r = 1 − 5; x = 1; g = 5 − 1 = 4;
-- V = 1 + 5·4 = 21, and the greatest cost is 1
abbrev pub S2 : Row
S2 = record {
  sheet = encode 1 1 1 1 1 (entries-C3 ++ (194 ∶ pos 5 ∷ []));
  room = 38;
  answer = Err (record { place = 0; cause = Infeasible });
  bytes = [];
  listing = text "refused 9 0\n";
}

-- Low stays D·cheapest cost. D = 2, k = 2: cost 1, from 1 to 3, x ≤ 3, start 10. By hand:
-- step 0: M = 10; r = 2 + 10; x = 1; g = −2; V = 2 − 20 = −18.
-- step 1: M = 8; r = 2 + 8; x = 1; g = −2; V = 2 − 16 = −14.
-- Closing M = 6; there r = 2 + 6; x = 1; g = −2; V = 2 − 12 = −10.
-- S = 2; G = −4; the cheapest cost is 1, and low 2·1 = 2; gap 2·2 − 2·2 = 0.
abbrev pub S3 : Row
S3 = record {
  sheet = encode 1 1 1 2 2 (0 ∶ pos 1 ∷ 64 ∶ pos 1 ∷ 128 ∶ pos 3 ∷ 192 ∶ pos 1 ∷ 193 ∶ pos 3 ∷ 194 ∶ pos 10 ∷ []);
  room = 38;
  answer = Ok (record { low = pos 2; gap = pos 0 });
  bytes = hex "0100 0100 0200 0200000000000000 0000000000000000 02000000 06000000 fcffffffffffffff";
  listing = text "steps 2\nmat 0 2\nlim 0 6 -4\nlow 2\ngap 0\n";
}

-- the greatest start, 2^30
abbrev pub S4 : Row
S4 = record {
  sheet = encode 1 1 1 1 1 (194 ∶ pos 1073741824 ∷ []);
  room = 39;
  answer = Ok (record { low = pos 0; gap = pos 0 });
  bytes = hex "0100 0100 0100 0000000000000000 0000000000000000 00000000 00000040 0000000000000000";
  listing = text "steps 1\nmat 0 0\nlim 0 1073741824 0\nlow 0\ngap 0\n";
}

-- and one more
abbrev pub S5 : Row
S5 = record {
  sheet = encode 1 1 1 1 1 (194 ∶ pos 1073741825 ∷ []);
  room = 38;
  answer = Err (record { place = 0; cause = Value });
  bytes = [];
  listing = text "refused 6 0\n";
}

-- The closing value is the largest. p = 4, D = 6: cost 1, most 2, −2·x ≤ −3, start 12.
-- By hand: r = 6 − 24 = −18; x = 2; g = −4 + 3 = −1; V = 12 − 12 = 0.
-- Closing M = 12 − 4 = 8; there r = 6 − 16 = −10; x = 2; g = −1; V = 12 − 8 = 4.
-- S = 2; G = −1; low 4; gap 6·2 − 4 = 8.
abbrev pub S7 : Row
S7 = record {
  sheet = encode 1 1 4 6 1 (0 ∶ pos 1 ∷ 128 ∶ pos 2 ∷ 192 ∶ neg 2 ∷ 193 ∶ neg 3 ∷ 194 ∶ pos 12 ∷ []);
  room = 38;
  answer = Ok (record { low = pos 4; gap = pos 8 });
  bytes = hex "0100 0100 0100 0400000000000000 0800000000000000 02000000 08000000 ffffffffffffffff";
  listing = text "steps 1\nmat 0 2\nlim 0 8 -1\nlow 4\ngap 8\n";
}

-- Every figure, so that e is n(m+3)+2m: cost 10,000, from 1,000 to 1,000, a −1,000, b 32,000,000, start 2^30; p and D
-- 1,024. By hand: r = 10,240,000 − 2^30·1,000 < 0; x = 1,000; g = −1,000,000 − 32,000,000 = −33,000,000;
-- V = 10,240,000,000 − 2^30·33,000,000, far below low, which stays 1,024·10,000,000.
-- Closing M = 0, for 2^30 − 1,024·33,000,000 < 0; there V = 1,024·10,000,000. S = 1,000; gap 10,240,000,000 − low = 0.
abbrev pub S8 : Row
S8 = record {
  sheet =
      encode 1 1 1024 1024 1
      (0 ∶ pos 10000 ∷ 64 ∶ pos 1000 ∷ 128 ∶ pos 1000 ∷ 192 ∶ neg 1000 ∷ 193 ∶ pos 32000000 ∷ 194 ∶ pos 1073741824
      ∷ []);
  room = 38;
  answer = Ok (record { low = pos 10240000000; gap = pos 0 });
  bytes = hex "0100 0100 0100 00005a6202000000 0000000000000000 e8030000 00000000 c07508feffffffff";
  listing = text "steps 1\nmat 0 1000\nlim 0 0 -33000000\nlow 10240000000\ngap 0\n";
}

-- and an entry more
abbrev pub S9 : Row
S9 = record {
  sheet =
      encode 1 1 1 1 1
      (0 ∶ pos 1 ∷ 64 ∶ pos 1 ∷ 128 ∶ pos 1 ∷ 192 ∶ pos 1 ∷ 193 ∶ pos 1 ∷ 194 ∶ pos 1 ∷ 195 ∶ pos 1 ∷ []);
  room = 38;
  answer = Err (record { place = 0; cause = Dimensions });
  bytes = [];
  listing = text "refused 2 0\n";
}

-- T11.3, S1 to S9 but S6
abbrev pub table : List Row
table = S1 ∷ S2 ∷ S3 ∷ S4 ∷ S5 ∷ S7 ∷ S8 ∷ S9 ∷ []

-- They follow from the definitions.
pub started : AllHold table
unfolding Holds AllHold
started =
    (refl, refl, refl, refl)
    and (refl, refl, refl, refl)
    and (refl, refl, refl, refl)
    and (refl, refl, refl, refl)
    and (refl, refl, refl, refl)
    and (refl, refl, refl, refl)
    and (refl, refl, refl, refl)
    and (refl, refl, refl, refl)
    and tt

-- ---- their bytes: the six sizes, the keys, the values
pub bytes-are :
    map (λ r. r.sheet) table
    ≡ (hex "0200 0100 0800 0100 0800 0400  0000 0100 8000 8100 c000 c100 c200 c300"
    ++ hex "03000000 01000000 0a000000 0a000000 feffffff ffffffff f4ffffff 0c000000") ∷
    hex "0100 0100 0500 0100 0100 0100  0000 8000 c000 c100 c200  01000000 01000000 ffffffff fbffffff 05000000" ∷
    (hex "0100 0100 0600 0100 0200 0200  0000 4000 8000 c000 c100 c200"
    ++ hex "01000000 01000000 03000000 01000000 03000000 0a000000") ∷
    hex "0100 0100 0100 0100 0100 0100  c200  00000040" ∷
    hex "0100 0100 0100 0100 0100 0100  c200  01000040" ∷
    hex "0100 0100 0500 0400 0600 0100  0000 8000 c000 c100 c200  01000000 02000000 feffffff fdffffff 0c000000" ∷
    (hex "0100 0100 0600 0004 0004 0100  0000 4000 8000 c000 c100 c200"
    ++ hex "10270000 e8030000 e8030000 18fcffff 0048e801 00000040") ∷
    (hex "0100 0100 0700 0100 0100 0100  0000 4000 8000 c000 c100 c200 c300"
    ++ hex "01000000 01000000 01000000 01000000 01000000 01000000 01000000") ∷
    []
unfolding Holds
bytes-are = refl

-- ---- what T11.3 says of the steps of S1
pub multipliers-S1 :
    map (λ t. at (state_after (problem (sheet_of S1.sheet)) t).multipliers 0) (0 ∷ 1 ∷ 2 ∷ 3 ∷ 4 ∷ [])
    ≡ pos 12 ∷ pos 14 ∷ pos 0 ∷ pos 12 ∷ pos 14 ∷ []
unfolding Holds
multipliers-S1 = refl

pub values-S1 :
    map (λ t. (look_after (problem (sheet_of S1.sheet)) t).dual_value) (0 ∷ 1 ∷ 2 ∷ 3 ∷ [])
    ≡ pos 104 ∷ pos 68 ∷ pos 0 ∷ pos 104 ∷ []
unfolding Holds
values-S1 = refl

-- the values of S3 are below its low
pub values-S3 :
    map (λ t. (look_after (problem (sheet_of S3.sheet)) t).dual_value) (0 ∷ 1 ∷ []) ≡ neg 18 ∷ neg 14 ∷ []
unfolding Holds
values-S3 = refl

-- the ends of the range of starts
pub start-range :
    map (in_range (range_of Start)) (pos 0 ∷ pos 1 ∷ pos 1073741824 ∷ pos 1073741825 ∷ [])
    ≡ false ∷ true ∷ true ∷ false ∷ []
unfolding Holds
start-range = refl
