-- The figures are tested, then the buffer; and then the sheet is put there. The arrays that are tested have to be those
-- that are lent, or others of the same figures.
use Rattle.std.specs.Prelude.{Ok, Err}
use Rattle.std.proofs.Common.{◌≡◌, rules, sym, ap, ◌∙◌, List, ℕ, ◌+◌, ◌*◌, ◌<◌, ◌≤◌, length, arith}
use Rattle.std.proofs.Math.Option.{none, some}
use Rattle.std.proofs.lemmas.Result.{err_from_is_err_and}
use Rattle.rules.specs.declared.Cause.TheVariants.{Buffer}
use Rattle.rules.specs.declared.Refusal.{Refusal}
use Rattle.rules.specs.declared.Sizes.{Sizes}
use Rattle.rules.specs.Refusals.{numbered, number_of, refusal_of}
use Rattle.rules.specs.Output.{Writes, short_buffer}
use Rattle.rules_arrays.specs.Arrays.{Arrays, sheet_from, write_refusal, arrays_refusal}
use Rattle.rules_arrays.specs.ReadBack.{figures_present}
use Rattle.proof_laws.specs.FirstPlace.{given, handed-on}
use Rattle.proof_laws.specs.Outputs.{writes-refused, writes-all, too_short, long-enough}
use Rattle.bytes_write.specs.Written.{written}
use Rattle.sheet_arrays.specs.Accepted.{lengths-in, shape-in, few-present}
use Rattle.sheet_arrays.proofs.Accepted.{wanted-is}
use Rattle.sheet_write.specs.Ready.{Short, SheetReady}
use Rattle.sheet_write.proofs.write_sheet.Goals as goal

-- ---- the figures are refused
refused : (z : Sizes) (A : Arrays) (d : List ℕ) (r : Refusal) {tested : Arrays}
    → some (numbered r) ≡ arrays_refusal z tested → tested ≡ A
    → Writes (sheet_from z A) (write_refusal z A (length d)) d d (Err r)
unfolding write_refusal
refused z A d r h same = writes-refused _ (given _ (sym (h ∙ ap (arrays_refusal z) same)))

-- ---- the figures are not refused
record Passed (z : Sizes) (A : Arrays) : Type 0 where
  is : none ≡ arrays_refusal z A

passed_by : {z : Sizes} {A tested : Arrays} → none ≡ arrays_refusal z tested → tested ≡ A → Passed z A
passed_by {z} h same = record { is = h ∙ ap (arrays_refusal z) same }

module _ {z : Sizes} {A : Arrays} (passed : Passed z A) where
  accepted : arrays_refusal z A ≡ none
  accepted = sym passed.is

  short : Short A
  short = record { short = few-present z A accepted }

  -- they are counted
  module _ {e : ℕ} (counted : e ≡ figures_present A) where
    few : e ≤ 640
    few = omega (arith, few-present z A accepted)

    wanted : length (sheet_from z A) ≡ 12 + 6 * e
    wanted = wanted-is z A accepted ∙ ap (λ (e : ℕ). 12 + 6 * e) (sym counted)

    module _ (d : List ℕ) where
      refusal_is : write_refusal z A (length d) ≡ short_buffer 8 (sheet_from z A) (length d)
      unfolding write_refusal
      refusal_is = handed-on _ accepted

      -- the buffer is too short
      lacking : {r : Refusal} → r ≡ record { place = 12 + 6 * e; cause = Buffer } → length d < 12 + 6 * e
          → Writes (sheet_from z A) (write_refusal z A (length d)) d d (Err r)
      unfolding numbered number_of
      lacking is l = rw is (writes-refused _ (refusal_is ∙ too_short 8 (sheet_from z A) wanted l))

      -- it is long enough
      module _ (l : 12 + 6 * e ≤ length d) where
        sheet-ready : SheetReady e z A d
        sheet-ready = record {
          narrow = (shape-in z A accepted).narrow;
          few = (shape-in z A accepted).few;
          lengths = lengths-in z A accepted;
          entries = counted;
          short = few;
          room = l;
        }

        wrote : {d' : List ℕ} → d' ≡ written (sheet_from z A) d
            → Writes (sheet_from z A) (write_refusal z A (length d)) d d' (Ok (12 + 6 * e))
        unfolding written
        wrote put = writes-all (refusal_is ∙ long-enough 8 (sheet_from z A) wanted l) (sym wanted) put

pub returns-in_err-check_arrays : goal.returns-in_err-check_arrays
unfolding refusal_of
returns-in_err-check_arrays c =
    let err = err_from_is_err_and c.from_residual.result c.from_residual.ensures.1 in
    rw (err.1, err.2)
    (refused c.args.sizes c.args.arrays.now c.args.sheet.now _ c.in_err-check_arrays.ensures (search rules))

pub count_entries-e-requires : goal.count_entries-e-requires
unfolding refusal_of
count_entries-e-requires c =
    let passed : Passed c.args.sizes c.args.arrays.now = passed_by c.in_ok-check_arrays.ensures (search rules) in
    short passed

pub overflow_mul-wanted : goal.overflow_mul-wanted
unfolding refusal_of
overflow_mul-wanted c =
    let passed : Passed c.args.sizes c.args.arrays.now = passed_by c.in_ok-check_arrays.ensures (search rules) in
    record { fits = omega (arith, few passed c.count_entries-e.ensures) }

pub overflow_add-wanted : goal.overflow_add-wanted
unfolding refusal_of
overflow_add-wanted c =
    let passed : Passed c.args.sizes c.args.arrays.now = passed_by c.in_ok-check_arrays.ensures (search rules) in
    record { fits = omega (arith, few passed c.count_entries-e.ensures) }

pub returns-then-sheet-wanted : goal.returns-then-sheet-wanted
unfolding refusal_of
returns-then-sheet-wanted c =
    let passed : Passed c.args.sizes c.args.arrays.now = passed_by c.in_ok-check_arrays.ensures (search rules) in
    lacking passed c.count_entries-e.ensures c.args.sheet.now c.at.ensures c.if-sheet-wanted.true

pub put_sheet-requires : goal.put_sheet-requires
unfolding refusal_of
put_sheet-requires c =
    let passed : Passed c.args.sizes c.args.arrays.now = passed_by c.in_ok-check_arrays.ensures (search rules) in
    sheet-ready passed c.count_entries-e.ensures c.args.sheet.now c.if-sheet-wanted.false

pub returns : goal.returns
unfolding refusal_of
returns c =
    let passed : Passed c.args.sizes c.args.arrays.now = passed_by c.in_ok-check_arrays.ensures (search rules) in
    wrote passed c.count_entries-e.ensures c.args.sheet.now c.if-sheet-wanted.false c.put_sheet.ensures
