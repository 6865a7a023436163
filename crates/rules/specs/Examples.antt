-- The examples of the table of refusals (TASK.md, T7.4); and sheets that settle what they and C1 to C10 leave open.
-- Tables of the same form, each with its proof.
use Rattle.std.specs.Prelude.{Ok, Err, ℕ, ◌+◌, ◌*◌, ◌≡◌, refl, List, [], ◌∷◌, ◌++◌, map, length, get_or, replicate, pos}
use Prim.Native.String.{String}
use Rattle.std.proofs.Math.Option.{none}
use Rattle.std.proofs.Common.{arith}
use Rattle.rules.specs.Notation.{neg}
use Rattle.rules.specs.declared.Kind.{Kind}
use Rattle.rules.specs.declared.Range.{Range}
use Rattle.rules.specs.declared.Sizes.{Sizes}
use Rattle.rules.specs.declared.Cause.{Cause}
use Rattle.rules.specs.declared.Cause.TheVariants.{Short, Dimensions, Length, Parameters, Key, Value, Bounds}
use Rattle.rules.specs.declared.Cause.TheVariants.{Buffer, Infeasible, Diverged}
use Rattle.rules.specs.Bytes.{signed_at, unsigned_bytes, laid}
use Rattle.rules.specs.Sheet.{header_length, sheet_length}
use Rattle.rules.specs.Encoder.{sizes_with}
use Rattle.rules.specs.Ranges.{ranges, index_of, range_of, most_entries, largest}
use Rattle.rules.specs.Record.{record_length, longest_record}
use Rattle.rules.specs.Refusals.{number_of, numbered, refuse, layout_refusal}
use Rattle.rules.specs.Output.{wrote, writing, writing_of, lent_after, short_buffer}
use Rattle.rules.specs.Listing.{text}
use Rattle.rules.specs.Rows.{◌∶◌, header, encode, hex, Row, lent, Holds, AllHold, ◌and◌}
use Rattle.rules.specs.Marked.{C1, C3, C7}

-- a row for a refusal
abbrev refusal-row : List ℕ → ℕ → Cause → ℕ → String → Row
refusal-row sheet room cause place listing =
    record {
      sheet = sheet;
      room = room;
      answer = Err (record { place = place; cause = cause });
      bytes = [];
      listing = text listing;
    }

-- ---- the examples of T7.4; those of 7, 9 and 10 are C10, C3 with C4, and C5
abbrev pub examples : List Row
examples =
    -- 11 bytes
    refusal-row (replicate 11 0) 42 Short 0 "refused 1 0\n" ∷
    -- n = 33
    refusal-row (encode 33 0 1 1 1 []) 42 Dimensions 0 "refused 2 0\n" ∷
    -- e = 1, 12 bytes
    refusal-row (header (1 ∷ 0 ∷ 1 ∷ 1 ∷ 1 ∷ 1 ∷ [])) 42 Length 0 "refused 3 0\n" ∷
    -- D = 0
    refusal-row (encode 1 0 1 0 1 []) 42 Parameters 0 "refused 4 0\n" ∷
    -- keys 1, 1 with n = 2
    refusal-row (encode 2 0 1 1 1 (1 ∶ pos 5 ∷ 1 ∶ pos 5 ∷ [])) 42 Key 1 "refused 5 1\n" ∷
    -- key 0, value 0
    refusal-row (encode 1 0 1 1 1 (0 ∶ pos 0 ∷ [])) 42 Value 0 "refused 6 0\n" ∷
    -- C1, 41 bytes
    refusal-row C1.sheet 41 Buffer 42 "refused 8 42\n" ∷
    []

pub examples-hold : AllHold examples
unfolding Holds AllHold
examples-hold =
    (refl, refl, refl, refl)
    and (refl, refl, refl, refl)
    and (refl, refl, refl, refl)
    and (refl, refl, refl, refl)
    and (refl, refl, refl, refl)
    and (refl, refl, refl, refl)
    and (refl, refl, refl, refl)
    and tt

-- ---- T7.3, more on the order of the refusals
abbrev pub order : List Row
order =
    -- e above its greatest, though the length fits: 2, not 5
    refusal-row
    (encode 1 0 1 1 1 (0 ∶ pos 1 ∷ 64 ∶ pos 1 ∷ 128 ∶ pos 1 ∷ 192 ∶ pos 1 ∷ []))
    42 Dimensions 0 "refused 2 0\n" ∷
    -- a byte too many and k = 0: 3, not 4
    refusal-row (encode 1 0 1 1 0 [] ++ (0 ∷ [])) 42 Length 0 "refused 3 0\n" ∷
    -- a bad value, and after it a bad key: 5, not 6
    refusal-row (encode 1 0 1 1 1 (0 ∶ pos 0 ∷ 1 ∶ pos 1 ∷ [])) 42 Key 1 "refused 5 1\n" ∷
    -- a bad value and a least amount above the most: 6, not 7
    refusal-row (encode 1 0 1 1 1 (64 ∶ pos 4 ∷ 128 ∶ neg 1 ∷ [])) 42 Value 1 "refused 6 1\n" ∷
    -- a least amount above the most and a short buffer: 7, not 8
    refusal-row (encode 2 0 1 1 1 (65 ∶ pos 1 ∷ [])) 0 Bounds 1 "refused 7 1\n" ∷
    -- C3 with a short buffer: 8, not 9
    refusal-row C3.sheet 37 Buffer 38 "refused 8 38\n" ∷
    -- C6 with k 2: at step 1 the value is 2^50, above 0, and the multiplier would be 2^31: 9, not 10
    refusal-row (encode 1 1 1024 1 2 (193 ∶ neg 1048576 ∷ [])) 38 Infeasible 1 "refused 9 1\n" ∷
    []

pub order-holds : AllHold order
unfolding Holds AllHold
order-holds =
    (refl, refl, refl, refl)
    and (refl, refl, refl, refl)
    and (refl, refl, refl, refl)
    and (refl, refl, refl, refl)
    and (refl, refl, refl, refl)
    and (refl, refl, refl, refl)
    and (refl, refl, refl, refl)
    and tt

-- ---- the ends of the ranges
abbrev pub ends : List Row
ends =
    refusal-row [] 42 Short 0 "refused 1 0\n" ∷
    refusal-row (replicate 12 255) 42 Dimensions 0 "refused 2 0\n" ∷
    refusal-row (encode 0 0 1 1 1 []) 42 Dimensions 0 "refused 2 0\n" ∷
    refusal-row (encode 1 17 1 1 1 []) 42 Dimensions 0 "refused 2 0\n" ∷
    -- both bytes of n, m and e count
    refusal-row (header (257 ∷ 0 ∷ 0 ∷ 1 ∷ 1 ∷ 1 ∷ [])) 42 Dimensions 0 "refused 2 0\n" ∷
    refusal-row (header (1 ∷ 256 ∷ 0 ∷ 1 ∷ 1 ∷ 1 ∷ [])) 42 Dimensions 0 "refused 2 0\n" ∷
    refusal-row (header (1 ∷ 0 ∷ 256 ∷ 1 ∷ 1 ∷ 1 ∷ [])) 42 Dimensions 0 "refused 2 0\n" ∷
    refusal-row (C7.sheet ++ (0 ∷ [])) 42 Length 0 "refused 3 0\n" ∷
    refusal-row (encode 1 0 0 1 1 []) 42 Parameters 0 "refused 4 0\n" ∷
    refusal-row (encode 1 0 1025 1 1 []) 42 Parameters 0 "refused 4 0\n" ∷
    refusal-row (encode 1 0 1 1025 1 []) 42 Parameters 0 "refused 4 0\n" ∷
    refusal-row (encode 1 0 1 1 0 []) 42 Parameters 0 "refused 4 0\n" ∷
    refusal-row (encode 1 0 1 1 4097 []) 42 Parameters 0 "refused 4 0\n" ∷
    -- row m+3; column n+2 in a limit's row; columns n and n+1 in row 2; the largest key
    refusal-row (encode 1 0 1 1 1 (192 ∶ pos 1 ∷ [])) 42 Key 0 "refused 5 0\n" ∷
    refusal-row (encode 1 1 1 1 1 (195 ∶ pos 1 ∷ [])) 42 Key 0 "refused 5 0\n" ∷
    refusal-row (encode 1 0 1 1 1 (129 ∶ pos 1 ∷ [])) 42 Key 0 "refused 5 0\n" ∷
    refusal-row (encode 1 1 1 1 1 (130 ∶ pos 1 ∷ [])) 42 Key 0 "refused 5 0\n" ∷
    refusal-row (encode 1 0 1 1 1 (65535 ∶ pos 1 ∷ [])) 42 Key 0 "refused 5 0\n" ∷
    refusal-row (encode 1 1 1 1 1 (0 ∶ pos 10001 ∷ [])) 42 Value 0 "refused 6 0\n" ∷
    refusal-row (encode 1 1 1 1 1 (0 ∶ neg 10001 ∷ [])) 42 Value 0 "refused 6 0\n" ∷
    refusal-row (encode 1 1 1 1 1 (64 ∶ neg 1 ∷ [])) 42 Value 0 "refused 6 0\n" ∷
    refusal-row (encode 1 1 1 1 1 (64 ∶ pos 1001 ∷ [])) 42 Value 0 "refused 6 0\n" ∷
    refusal-row (encode 1 1 1 1 1 (128 ∶ pos 1001 ∷ [])) 42 Value 0 "refused 6 0\n" ∷
    refusal-row (encode 1 1 1 1 1 (192 ∶ neg 1001 ∷ [])) 42 Value 0 "refused 6 0\n" ∷
    refusal-row (encode 1 1 1 1 1 (192 ∶ pos 1001 ∷ [])) 42 Value 0 "refused 6 0\n" ∷
    refusal-row (encode 1 1 1 1 1 (193 ∶ neg 32000001 ∷ [])) 42 Value 0 "refused 6 0\n" ∷
    refusal-row (encode 1 1 1 1 1 (192 ∶ pos 1 ∷ 193 ∶ pos 32000001 ∷ [])) 42 Value 1 "refused 6 1\n" ∷
    -- starts of 0 and of −1
    refusal-row (encode 1 1 1 1 1 (194 ∶ pos 0 ∷ [])) 42 Value 0 "refused 6 0\n" ∷
    refusal-row (encode 1 1 1 1 1 (194 ∶ neg 1 ∷ [])) 42 Value 0 "refused 6 0\n" ∷
    -- a multiplier of 325·3,303,821 = 2^30 + 1, at the second limit
    refusal-row (encode 1 2 325 1 1 (257 ∶ neg 3303821 ∷ [])) 50 Diverged 0 "refused 10 0\n" ∷
    -- every figure at an end of its range: cost −10,000, least 1, most 1,000, a 1,000, b −32,000,000. Step 0 has
    -- x = 1,000 and g = 33,000,000, and the closing look x = 1, g = 32,001,000 and V far above −10,000·1
    refusal-row
    (encode 1 1 1 1 1 (0 ∶ neg 10000 ∷ 64 ∶ pos 1 ∷ 128 ∶ pos 1000 ∷ 192 ∶ pos 1000 ∷ 193 ∶ neg 32000000 ∷ []))
    38 Infeasible 1 "refused 9 1\n" ∷
    -- and at the other: cost 10,000, least 1,000, a −1,000, b 32,000,000; p and D 1,024
    record {
      sheet =
          encode 1 1 1024 1024 1
          (0 ∶ pos 10000 ∷ 64 ∶ pos 1000 ∷ 128 ∶ pos 1000 ∷ 192 ∶ neg 1000 ∷ 193 ∶ pos 32000000 ∷ []);
      room = 38;
      answer = Ok (record { low = pos 10240000000; gap = pos 0 });
      bytes = hex "0100 0100 0100 00005a6202000000 0000000000000000 e8030000 00000000 c07508feffffffff";
      listing = text "steps 1\nmat 0 1000\nlim 0 0 -33000000\nlow 10240000000\ngap 0\n";
    } ∷
    []

pub ends-hold : AllHold ends
unfolding Holds AllHold
ends-hold =
    (refl, refl, refl, refl)
    and (refl, refl, refl, refl)
    and (refl, refl, refl, refl)
    and (refl, refl, refl, refl)
    and (refl, refl, refl, refl)
    and (refl, refl, refl, refl)
    and (refl, refl, refl, refl)
    and (refl, refl, refl, refl)
    and (refl, refl, refl, refl)
    and (refl, refl, refl, refl)
    and (refl, refl, refl, refl)
    and (refl, refl, refl, refl)
    and (refl, refl, refl, refl)
    and (refl, refl, refl, refl)
    and (refl, refl, refl, refl)
    and (refl, refl, refl, refl)
    and (refl, refl, refl, refl)
    and (refl, refl, refl, refl)
    and (refl, refl, refl, refl)
    and (refl, refl, refl, refl)
    and (refl, refl, refl, refl)
    and (refl, refl, refl, refl)
    and (refl, refl, refl, refl)
    and (refl, refl, refl, refl)
    and (refl, refl, refl, refl)
    and (refl, refl, refl, refl)
    and (refl, refl, refl, refl)
    and (refl, refl, refl, refl)
    and (refl, refl, refl, refl)
    and (refl, refl, refl, refl)
    and (refl, refl, refl, refl)
    and (refl, refl, refl, refl)
    and tt

-- signed numbers of four bytes: the bytes of 0, 2^31 − 1, 2^31 and 2^32 − 1
pub signed-bytes :
    map (λ v. signed_at 4 (unsigned_bytes 4 v) 0) (0 ∷ 2147483647 ∷ 2147483648 ∷ 4294967295 ∷ [])
    ≡ pos 0 ∷ pos 2147483647 ∷ neg 2147483648 ∷ neg 1 ∷ []
unfolding Holds
signed-bytes = refl

-- the largest sizes are read
pub largest-sizes : layout_refusal (encode 32 16 1024 1024 4096 []) ≡ none
unfolding Holds
largest-sizes = refl

-- what is written of the sizes is as long as the header
pub header-length : (z : Sizes) (e : ℕ) → length (laid (unsigned_bytes 2) (sizes_with z e)) ≡ header_length
unfolding laid unsigned_bytes header_length
header-length z e = refl

-- T2.5, the length of a sheet: 12 bytes, and 6 for each entry
pub sheet-length : (e : ℕ) → sheet_length e ≡ 12 + 6 * e
unfolding header_length
sheet-length e = omega arith

-- T2.6, the length of the longest sheet
pub longest : sheet_length (most_entries largest) ≡ 3852
unfolding header_length
longest = refl

-- every kind of figure stands in the table of ranges, so that nothing is read past its end, and the row
-- there is its own
pub kinds-found : (kind : Kind) (past : Range)
    → (get_or ranges (index_of kind) past ≡ range_of kind) × ((range_of kind).kind ≡ kind)
unfolding ranges index_of range_of
kinds-found Kind.Cost past = (refl, refl)
kinds-found Kind.Least past = (refl, refl)
kinds-found Kind.Most past = (refl, refl)
kinds-found Kind.Coefficient past = (refl, refl)
kinds-found Kind.Rhs past = (refl, refl)
kinds-found Kind.Start past = (refl, refl)

-- T6.2, the length of a record: 22 bytes, 4 for each material, and 12 for each limit
pub record-length : (n m : ℕ) → record_length n m ≡ 22 + 4 * n + 12 * m
unfolding record_length
record-length n m = omega arith

-- T6.2, the longest record has 342 bytes
pub longest-record : longest_record ≡ 342
unfolding record_length
longest-record = refl

-- ---- the steps
abbrev pub steps : List Row
steps =
    -- Two materials and two limits, p = 2, D = 3, k = 3: costs 1 and 2, most amounts 4 and 5,
    -- −x₀ ≤ −3 and x₀ − x₁ ≤ −1. By hand:
    -- step 0: M = 0, 0; r = 3, 6; x = 0, 0; g = 3, 1; V = 0.
    -- step 1: M = 6, 2; r = 3−6+2 = −1, 6−2 = 4; x = 4, 0; g = −1, 5; V = 3·4 + 6·(−1) + 2·5 = 16.
    -- step 2: M = 4, 12; r = 3−4+12 = 11, 6−12 = −6; x = 0, 5; g = 3, −4; V = 3·10 + 4·3 + 12·(−4) = −6.
    -- closing look: M = 10, 4; r = 3−10+4 = −3, 6−4 = 2; x = 4, 0; g = −1, 5; V = 3·4 + 10·(−1) + 4·5 = 22.
    -- S = 4, 5; G = 5, 2; low 22; gap 3·(4+10) − 3·22 = −24.
    -- Were the limits moved one after the other (T4.7), limit 1 would in step 0 see limit 0 at 6: r_0 = −3, x_0 = 4,
    -- g_1 = 5 and M_1 = 10, not 2.
    record {
      sheet =
          encode 2 2 2 3 3
          (0 ∶ pos 1 ∷ 1 ∶ pos 2 ∷ 128 ∶ pos 4 ∷ 129 ∶ pos 5 ∷ 192 ∶ neg 1 ∷ 194 ∶ neg 3
          ∷ 256 ∶ pos 1 ∷ 257 ∶ neg 1 ∷ 258 ∶ neg 1 ∷ []);
      room = 54;
      answer = Ok (record { low = pos 22; gap = neg 24 });
      bytes =
          hex "0200 0200 0300 1600000000000000 e8ffffffffffffff 04000000 05000000"
          ++ hex "0a000000 04000000 0500000000000000 0200000000000000";
      listing = text "steps 3\nmat 0 4\nmat 1 5\nlim 0 10 5\nlim 1 4 2\nlow 22\ngap -24\n";
    } ∷
    -- More limits than materials, D = 10, k = 2: cost 1, most 10, x ≤ 5,000 and −2x ≤ −15. By hand:
    -- step 0: M = 0, 0; r = 10; x = 0; g = −5,000, 15; V = 0.
    -- step 1: M = 0, 15; r = 10−30 = −20; x = 10; g = −4,990, −5; V = 10·10 + 15·(−5) = 25.
    -- closing look: M = 0, 10; r = 10−20 = −10; x = 10; g = −4,990, −5; V = 10·10 + 10·(−5) = 50.
    -- S = 10; G = −9,990, 10; low 50; gap 10·10 − 2·50 = 0.
    record {
      sheet =
          encode 1 2 1 10 2
          (0 ∶ pos 1 ∷ 128 ∶ pos 10 ∷ 192 ∶ pos 1 ∷ 193 ∶ pos 5000 ∷ 256 ∶ neg 2 ∷ 257 ∶ neg 15 ∷ []);
      room = 50;
      answer = Ok (record { low = pos 50; gap = pos 0 });
      bytes =
          hex "0100 0200 0200 3200000000000000 0000000000000000 0a000000 00000000 0a000000"
          ++ hex "fad8ffffffffffff 0a00000000000000";
      listing = text "steps 2\nmat 0 10\nlim 0 0 -9990\nlim 1 10 10\nlow 50\ngap 0\n";
    } ∷
    -- A negative cost: the greatest cost is −2·1, with the least amount, and not −2·3. Cost −2, from 1 to 3,
    -- x ≤ 2, k = 2. By hand:
    -- step 0: M = 0; r = −2; x = 3; g = 1; V = −6.
    -- step 1: M = 1; r = −1; x = 3; g = 1; V = −6 + 1 = −5, which −2 allows.
    -- closing look: M = 2; r = 0, a tie; x = 1; g = −1; V = −2 − 2 = −4, which −2 allows too.
    -- S = 6; G = 2; low −4; gap −12 − 2·(−4) = −4.
    record {
      sheet = encode 1 1 1 1 2 (0 ∶ neg 2 ∷ 64 ∶ pos 1 ∷ 128 ∶ pos 3 ∷ 192 ∶ pos 1 ∷ 193 ∶ pos 2 ∷ []);
      room = 38;
      answer = Ok (record { low = neg 4; gap = neg 4 });
      bytes = hex "0100 0100 0200 fcffffffffffffff fcffffffffffffff 06000000 02000000 0200000000000000";
      listing = text "steps 2\nmat 0 6\nlim 0 2 2\nlow -4\ngap -4\n";
    } ∷
    -- Two limits with starts of their own, 4 and 1. D = 2: cost 3, most 5, −x ≤ −2 and −2x ≤ −7. By hand:
    -- step 0: M = 4, 1; r = 6 − 4 − 2 = 0, a tie; x = 0; g = 2, 7; V = 4·2 + 1·7 = 15.
    -- closing look: M = 6, 8; r = 6 − 6 − 16 = −16; x = 5; g = −3, −3; V = 2·15 − 6·3 − 8·3 = −12.
    -- S = 0; G = 2, 7; low 15; gap 0 − 15 = −15. With the starts exchanged r would be 6 − 1 − 8 = −3 in step 0, and
    -- with 4 for both 6 − 4 − 8 = −6, so that x would be 5.
    record {
      sheet =
          encode 1 2 1 2 1
          (0 ∶ pos 3 ∷ 128 ∶ pos 5 ∷ 192 ∶ neg 1 ∷ 193 ∶ neg 2 ∷ 194 ∶ pos 4
          ∷ 256 ∶ neg 2 ∷ 257 ∶ neg 7 ∷ 258 ∶ pos 1 ∷ []);
      room = 50;
      answer = Ok (record { low = pos 15; gap = neg 15 });
      bytes =
          hex "0100 0200 0100 0f00000000000000 f1ffffffffffffff 00000000 06000000 08000000"
          ++ hex "0200000000000000 0700000000000000";
      listing = text "steps 1\nmat 0 0\nlim 0 6 2\nlim 1 8 7\nlow 15\ngap -15\n";
    } ∷
    []

pub steps-hold : AllHold steps
unfolding Holds AllHold
steps-hold =
    (refl, refl, refl, refl)
    and (refl, refl, refl, refl)
    and (refl, refl, refl, refl)
    and (refl, refl, refl, refl)
    and tt

-- ---- what writing three bytes to a lent buffer gives: an answer, and the buffer afterwards
pub written-3 :
    (writing_of (1 ∷ 2 ∷ 3 ∷ []) (short_buffer 8 (1 ∷ 2 ∷ 3 ∷ []) 5) ≡ wrote 3) ×
    (lent_after (1 ∷ 2 ∷ 3 ∷ []) (lent 5) (wrote 3) ≡ 1 ∷ 2 ∷ 3 ∷ 170 ∷ 170 ∷ [])
unfolding writing_of short_buffer refuse lent_after
written-3 = refl and refl

-- a buffer of two bytes is too short, and is as lent
pub not-written-3 :
    (writing_of (1 ∷ 2 ∷ 3 ∷ []) (short_buffer 8 (1 ∷ 2 ∷ 3 ∷ []) 2)
    ≡ writing (Err (record { place = 3; cause = Buffer }))) ×
    (lent_after (1 ∷ 2 ∷ 3 ∷ []) (lent 2) (writing (Err (record { place = 3; cause = Buffer }))) ≡ lent 2)
unfolding writing numbered number_of writing_of short_buffer refuse lent_after
not-written-3 = refl and refl
