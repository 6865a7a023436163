-- W1 to W3, written from plain arrays, and arrays that are refused (T11.4); and the terms of T13.7 to T13.10.
use Rattle.std.specs.Prelude.{Result, Ok, Err, ℕ, ◌≡◌, refl, List, [], ◌∷◌, ◌++◌, length, replicate, drop, ℤ, pos}
use Rattle.std.proofs.Math.Option.{some}
use Rattle.rules.specs.declared.Cause.{Cause}
use Rattle.rules.specs.declared.Cause.TheVariants.{Dimensions, Parameters, Value, Bounds, Buffer}
use Rattle.rules.specs.declared.Refusal.{Refusal}
use Rattle.rules.specs.declared.Sizes.{Sizes}
use Rattle.rules.specs.Notation.{neg, is_zero, any_below}
use Rattle.rules.specs.Bytes.{unsigned_bytes, signed_bytes, laid}
use Rattle.rules.specs.Sheet.{sized, sheet_of, problem}
use Rattle.rules.specs.Ranges.{ranges, index_of, range_of, kind_at, in_range, between, dimensions_in_range}
use Rattle.rules.specs.Ranges.{parameters_in_range}
use Rattle.rules.specs.Encoder.{laid_out, picked, keys_of, written}
use Rattle.rules.specs.Refusals.{number_of, numbered, refuse, ◌otherwise◌, first_below, no_figure_at, value_bad}
use Rattle.rules.specs.Refusals.{crossed, bound_refusal}
use Rattle.rules.specs.Output.{writing, writing_of, lent_after, short_buffer}
use Rattle.rules_arrays.specs.Arrays.{Arrays, arrays, lengths_match, figure_of, gathered, figure_bad, table_refusal}
use Rattle.rules_arrays.specs.Arrays.{sheet_from, arrays_refusal, write_refusal}
use Rattle.rules_arrays.specs.ReadBack.{arrays_of, unplaced, present_in, figures_present}
use Rattle.rules.specs.Rows.{hex, nibble, unspaced, pairs, lent, Holds, ◌and◌}
use Rattle.rules.specs.Marked.{C1}
use Rattle.rules.specs.Listing.{text}

-- Sizes, arrays and the length of the lent buffer; and what must come out: the answer, and the bytes (none for a
-- refusal).
pub record Draft : Type 0 where
  pub sizes : Sizes
  pub arrays : Arrays
  pub room : ℕ
  pub output : Result ℕ Refusal
  pub bytes : List ℕ

-- sizes, arrays, a buffer and what is written
abbrev pub writes : Sizes → Arrays → ℕ → List ℕ → Draft
writes z A room bytes =
    record { sizes = z; arrays = A; room = room; output = Ok (length bytes); bytes = bytes }

-- sizes, arrays, a buffer and the refusal
abbrev pub refuses : Sizes → Arrays → ℕ → Cause → ℕ → Draft
refuses z A room cause place = record {
  sizes = z;
  arrays = A;
  room = room;
  output = Err (record { place = place; cause = cause });
  bytes = [];
}

-- What the definitions give is what the draft says: the answer, and the buffer afterwards.
unfoldable pub Written : Draft → Type 0
unfolding
    is_zero any_below unsigned_bytes signed_bytes laid ranges index_of range_of kind_at in_range between
    dimensions_in_range parameters_in_range laid_out picked keys_of written number_of numbered refuse ◌otherwise◌
    first_below no_figure_at value_bad crossed bound_refusal writing writing_of lent_after short_buffer lengths_match
    figure_of gathered figure_bad table_refusal sheet_from arrays_refusal write_refusal nibble unspaced pairs text
Written r =
    let bytes = sheet_from r.sizes r.arrays in
    (writing_of bytes (write_refusal r.sizes r.arrays r.room) ≡ writing r.output) ×
    (lent_after bytes (lent r.room) (writing r.output) ≡ r.bytes ++ drop (length r.bytes) (lent r.room))

-- every draft of a table
unfoldable pub AllWritten : List Draft → Type 0
AllWritten [] = Unit {0}
AllWritten (r ∷ rs) = Written r × AllWritten rs

-- ---- what is written

-- W1: C1's figures, into a buffer of 60 bytes
abbrev figures-C1 : Arrays
figures-C1 =
    arrays (pos 3 ∷ pos 1 ∷ []) (pos 0 ∷ pos 0 ∷ []) (pos 10 ∷ pos 10 ∷ [])
    (neg 2 ∷ neg 1 ∷ []) (neg 12 ∷ []) (pos 0 ∷ [])

abbrev pub W1 : Draft
W1 =
    writes (sized 2 1 1 8 4) figures-C1 60
    (hex "0200 0100 0700 0100 0800 0400"
    ++ hex "0000 0100 8000 8100 c000 c100 c200"
    ++ hex "03000000 01000000 0a000000 0a000000 feffffff ffffffff f4ffffff")

-- W2: two limits, a start at the second, and figures of 0 between others, into a buffer that just takes the sheet
abbrev pub W2 : Draft
W2 =
    writes (sized 2 2 5 6 7)
    (arrays (pos 3 ∷ neg 1 ∷ []) (pos 1 ∷ pos 0 ∷ []) (pos 4 ∷ pos 5 ∷ [])
    (pos 6 ∷ pos 0 ∷ pos 2 ∷ neg 7 ∷ []) (pos 8 ∷ neg 9 ∷ []) (pos 0 ∷ pos 10 ∷ [])) 78
    (hex "0200 0200 0b00 0500 0600 0700"
    ++ hex "0000 0100 4000 8000 8100 c000 c200 0001 0101 0201 0301"
    ++ hex "03000000 ffffffff 01000000 04000000 05000000 06000000 08000000 02000000 f9ffffff f7ffffff 0a000000")

-- W3: all figures are 0, which is always allowed
abbrev zeros : Arrays
zeros = arrays (pos 0 ∷ []) (pos 0 ∷ []) (pos 0 ∷ []) (pos 0 ∷ []) (pos 0 ∷ []) (pos 0 ∷ [])

abbrev pub W3 : Draft
W3 = writes (sized 1 1 1 1 1) zeros 13 (hex "0100 0100 0000 0100 0100 0100")

-- ---- what is refused

-- one material and one limit, with one figure of each kind
abbrev one : (c l u a b s : ℤ) → Arrays
one c l u a b s = arrays (c ∷ []) (l ∷ []) (u ∷ []) (a ∷ []) (b ∷ []) (s ∷ [])

-- 2: n and m, and each array in turn
abbrev lengths : List Draft
lengths =
    refuses (sized 33 0 1 1 1) (arrays (replicate 33 (pos 0)) (replicate 33 (pos 0)) (replicate 33 (pos 0)) [] [] []) 12
    Dimensions 0 ∷
    refuses (sized 0 0 1 1 1) (arrays [] [] [] [] [] []) 12 Dimensions 0 ∷
    refuses (sized 1 17 1 1 1)
    (arrays (pos 0 ∷ []) (pos 0 ∷ []) (pos 0 ∷ []) (replicate 17 (pos 0)) (replicate 17 (pos 0)) (replicate 17 (pos 0)))
    12 Dimensions 0 ∷
    refuses (sized 1 0 1 1 1) (arrays (pos 0 ∷ []) (pos 0 ∷ []) (pos 0 ∷ []) [] [] (pos 0 ∷ [])) 12 Dimensions 0 ∷
    refuses (sized 1 1 1 1 1) (arrays [] (pos 0 ∷ []) (pos 0 ∷ []) (pos 0 ∷ []) (pos 0 ∷ []) (pos 0 ∷ [])) 12
    Dimensions 0 ∷
    refuses (sized 1 1 1 1 1) (arrays (pos 0 ∷ []) [] (pos 0 ∷ []) (pos 0 ∷ []) (pos 0 ∷ []) (pos 0 ∷ [])) 12
    Dimensions 0 ∷
    refuses (sized 1 1 1 1 1) (arrays (pos 0 ∷ []) (pos 0 ∷ []) [] (pos 0 ∷ []) (pos 0 ∷ []) (pos 0 ∷ [])) 12
    Dimensions 0 ∷
    refuses (sized 1 1 1 1 1) (arrays (pos 0 ∷ []) (pos 0 ∷ []) (pos 0 ∷ []) [] (pos 0 ∷ []) (pos 0 ∷ [])) 12
    Dimensions 0 ∷
    refuses (sized 1 1 1 1 1) (arrays (pos 0 ∷ []) (pos 0 ∷ []) (pos 0 ∷ []) (pos 0 ∷ []) [] (pos 0 ∷ [])) 12
    Dimensions 0 ∷
    refuses (sized 1 1 1 1 1) (arrays (pos 0 ∷ []) (pos 0 ∷ []) (pos 0 ∷ []) (pos 0 ∷ []) (pos 0 ∷ []) []) 12
    Dimensions 0 ∷
    []

-- 4 to 8, and their order
abbrev figures : List Draft
figures =
    refuses (sized 1 1 0 1 1) zeros 12 Parameters 0 ∷
    refuses (sized 1 1 1 1 1) (one (pos 10001) (pos 0) (pos 0) (pos 0) (pos 0) (pos 0)) 18 Value 0 ∷
    refuses (sized 1 1 1 1 1) (one (pos 0) (neg 1) (pos 0) (pos 0) (pos 0) (pos 0)) 18 Value 0 ∷
    refuses (sized 1 1 1 1 1) (one (pos 0) (pos 0) (pos 0) (pos 0) (pos 0) (pos 1073741825)) 18 Value 0 ∷
    refuses (sized 2 0 1 1 1) (arrays (pos 0 ∷ pos 0 ∷ []) (pos 1 ∷ pos 5 ∷ []) (pos 1 ∷ pos 4 ∷ []) [] [] []) 99
    Bounds 1 ∷
    refuses (sized 2 1 1 8 4) figures-C1 53 Buffer 54 ∷
    -- 2 before 4, 4 before 6, 6 before 7, 7 before 8
    refuses (sized 1 1 0 1 1) (arrays [] [] [] [] [] []) 0 Dimensions 0 ∷
    refuses (sized 1 1 1 1 4097) (one (pos 10001) (pos 0) (pos 0) (pos 0) (pos 0) (pos 0)) 0 Parameters 0 ∷
    refuses (sized 1 1 1 1 1) (one (pos 0) (pos 1) (pos 0) (pos 0) (pos 0) (neg 1)) 0 Value 0 ∷
    refuses (sized 1 1 1 1 1) (one (pos 0) (pos 1) (pos 0) (pos 0) (pos 0) (pos 0)) 0 Bounds 0 ∷
    []

-- All of them hold.
pub drafts : AllWritten (W1 ∷ W2 ∷ W3 ∷ [])
unfolding AllWritten Written
drafts = (refl and refl) and (refl and refl) and (refl and refl) and tt

pub lengths-refused : AllWritten lengths
unfolding AllWritten Written
lengths-refused =
    (refl and refl) and (refl and refl) and (refl and refl) and (refl and refl)
    and (refl and refl) and (refl and refl) and (refl and refl) and (refl and refl)
    and (refl and refl) and (refl and refl) and tt

pub figures-refused : AllWritten figures
unfolding AllWritten Written
figures-refused =
    (refl and refl) and (refl and refl) and (refl and refl) and (refl and refl) and (refl and refl)
    and (refl and refl) and (refl and refl) and (refl and refl) and (refl and refl) and (refl and refl) and tt

-- ---- the terms in which T13.7 to T13.10 are said

-- the figures that C1 is read as, in plain arrays
pub arrays-C1 : arrays_of (problem (sheet_of C1.sheet)) ≡ figures-C1
unfolding Holds arrays_of
arrays-C1 = refl

-- 6 keeps its number alone, 7 its place too
pub unplaced-6 : unplaced (some (record { number = 6; place = 5 })) ≡ some (record { number = 6; place = 0 })
unfolding unplaced
unplaced-6 = refl

pub unplaced-7 : unplaced (some (record { number = 7; place = 5 })) ≡ some (record { number = 7; place = 5 })
unfolding unplaced
unplaced-7 = refl

-- C1 has 7 figures that are not 0
pub present-C1 : figures_present figures-C1 ≡ 7
unfolding figures_present present_in picked is_zero
present-C1 = refl
