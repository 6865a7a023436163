-- What is promised of a sheet that is written from plain arrays: T13.7 to T13.10, but for the second half of T13.8,
-- which stands in proofs/Laws.
use Rattle.std.specs.Prelude.{◌≡◌, true, not, ℕ, ◌+◌, ◌*◌, ◌≤◌, get_or}
use Rattle.std.proofs.Math.Path.{sym, ap, subst}
use Rattle.std.proofs.Common.{◌∙◌, arith}
use mathlib.Core.List.{List}
use Rattle.std.proofs.Math.Option.{none}
use Rattle.std.proofs.Math.ListN.{length}
use mir.Syntax.{w8}
use mir.Val.{Fits}
use Rattle.proof_laws.specs.FirstPlace.{refuse-no, handed-on}
use Rattle.proof_laws.specs.NotRefused.{otherwise-none}
use Rattle.proof_laws.specs.Outputs.{long-enough}
use Rattle.rules.specs.declared.Sizes.{Sizes}
use Rattle.rules.specs.Ranges.{most_entries, largest}
use Rattle.rules.specs.Sheet.{header_length, sheet_length, sheet_of, table_of, problem_from}
use Rattle.rules.specs.Refusals.{layout_refusal}
use Rattle.rules_arrays.specs.Arrays.{Arrays, lengths_match, gathered, sheet_from, arrays_refusal, write_refusal}
use Rattle.rules_arrays.specs.ReadBack.{SameFigures, ReadsAs, unplaced, figures_present}
use Rattle.sheet_arrays.specs.Accepted.{shape-in, few-present}
use Rattle.sheet_arrays.proofs.Accepted.{wanted-is}
use Rattle.sheet_written.proofs.Accepted.{accepted-sizes}
use Rattle.sheet_written.specs.ReadBack.{SizesFit}
use Rattle.sheet_written.proofs.ReadBack.{read-alone}
use Rattle.sheet_written.proofs.Refused.{written-refused, written-accepted}
use Rattle.sheet_written.proofs.Same.{only-sheet}
use Rattle.sheet_round_trip.specs.Fits.{gathered-shaped, accepted-fit, table-refusal, FiguresFit, gathered-fits}
use Rattle.sheet_round_trip.specs.Figures.{figures-of, figures-at}

module _ (z : Sizes) (A : Arrays) (room : ℕ) (written : write_refusal z A room ≡ none) where
  accepted : arrays_refusal z A ≡ none
  unfolding write_refusal
  accepted = (otherwise-none _ _ written).0

  -- T13.7: what is written is read back
  pub read_back : ReadsAs z A (sheet_from z A)
  unfolding sheet_from
  read_back =
      let fit = accepted-fit z A accepted in
      let reads = read-alone fit in
      let shape = shape-in z A accepted in
      let s = sheet_from z A in
      record {
        accepted = written-accepted z _ fit (gathered-shaped z.shape A) (table-refusal z A accepted);
        sizes = reads.sizes;
        figures =
            subst (λ (y : Sizes). SameFigures (problem_from y (table_of (sheet_of s))) A) (sym reads.sizes)
            (figures-of z A (table_of (sheet_of s)) shape.narrow shape.few reads.values);
      }

  -- T13.10: 12 bytes, and 6 for each figure that is not 0
  pub sheet-length : length (sheet_from z A) ≡ 12 + 6 * figures_present A
  sheet-length = wanted-is z A accepted

-- T13.9: the reader refuses what the encoder makes of refused sizes and figures as the writer does
pub refused-alike : (z : Sizes) (A : Arrays) → lengths_match z.shape A ≡ true → SizesFit z → FiguresFit A
    → unplaced (layout_refusal (sheet_from z A)) ≡ arrays_refusal z A
unfolding sheet_from arrays_refusal
refused-alike z A lengths sizes figures =
    written-refused z (gathered z.shape A)
    (record { sizes = sizes; values = λ q l. gathered-fits z.shape A figures q })
    (gathered-shaped z.shape A)
    ∙ sym (handed-on _ (refuse-no 2 0 (ap not lengths)))

-- T10.6: a buffer of the longest sheet's length takes every sheet
pub never-8 : (z : Sizes) (A : Arrays) (room : ℕ) → arrays_refusal z A ≡ none
    → sheet_length (most_entries largest) ≤ room
    → write_refusal z A room ≡ none
unfolding write_refusal header_length
never-8 z A room accepted long =
    handed-on _ accepted
    ∙ long-enough 8 (sheet_from z A) (wanted-is z A accepted) (omega (arith, few-present z A accepted))

-- T13.8: a table has a single sheet
pub single-sheet : (z : Sizes) (A : Arrays) (s : List ℕ) → ((i : ℕ) → Fits w8 (get_or s i 0)) → ReadsAs z A s
    → s ≡ sheet_from z A
unfolding sheet_from
single-sheet z A s bytes reads =
    let narrow : z.shape.materials ≤ 32 =
    subst (λ (y : Sizes). y.shape.materials ≤ 32) reads.sizes (accepted-sizes s reads.accepted).narrow in
    let U = table_of (sheet_of s) in
    let figures = subst (λ (y : Sizes). SameFigures (problem_from y U) A) reads.sizes reads.figures in
    only-sheet z (gathered z.shape A) s (gathered-shaped z.shape A) bytes reads.accepted reads.sizes
    (figures-at z A U narrow figures)
