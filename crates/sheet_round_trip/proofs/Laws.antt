-- T13.8: writing what a sheet reads as gives the sheet back, and is not refused.
use Rattle.std.specs.Prelude.{◌≡◌, refl, ℕ, ◌≤◌, get_or}
use Rattle.std.proofs.Math.Path.{sym, ap}
use Rattle.std.proofs.Common.{◌∙◌}
use mathlib.Core.List.{List}
use Rattle.std.proofs.Math.Option.{none}
use Rattle.std.proofs.Math.ListN.{length}
use mir.Syntax.{w8, w32}
use mir.Val.{Fits, SFits}
use Rattle.proof_laws.specs.FirstPlace.{handed-on}
use Rattle.proof_laws.specs.Outputs.{long-enough}
use Rattle.rules.specs.declared.Sizes.{Sizes}
use Rattle.rules.specs.Sheet.{sheet_of, table_of, problem_from, problem}
use Rattle.rules.specs.Refusals.{layout_refusal}
use Rattle.rules_arrays.specs.Arrays.{Arrays, sheet_from, arrays_refusal, write_refusal}
use Rattle.rules_arrays.specs.ReadBack.{arrays_of, unplaced}
use Rattle.sheet_written.specs.BytesFit.{sizes-fit, table_fits}
use Rattle.sheet_round_trip.specs.Own.{own-figures, own-lengths, ProblemFits, own-fit}
use Rattle.sheet_round_trip.specs.Laws.{single-sheet, refused-alike}

-- T13.8: so writing what a sheet reads as gives the sheet back
module _ (s : List ℕ) (bytes : (i : ℕ) → Fits w8 (get_or s i 0)) (read : layout_refusal s ≡ none) where
  abbrev z : Sizes
  z = (sheet_of s).sizes

  abbrev A : Arrays
  A = arrays_of (problem (sheet_of s))

  pub written-again : sheet_from z A ≡ s
  written-again =
      sym (single-sheet z A s bytes (record {
        accepted = read;
        sizes = refl;
        figures = own-figures (problem (sheet_of s));
      }))

  -- without a refusal, in a buffer that is as long
  pub again-accepted : (room : ℕ) → length s ≤ room → write_refusal z A room ≡ none
  unfolding write_refusal problem_from unplaced
  again-accepted room long =
      let P = problem (sheet_of s) in
      let figures : ProblemFits P = record {
        cost = λ j. fits _;
        least = λ j. fits _;
        most = λ j. fits _;
        coefficient = λ i j. fits _;
        rhs = λ i. fits _;
        starting_multiplier = λ i. fits _;
      } in
      let arrays : arrays_refusal z A ≡ none =
      sym (refused-alike z A (own-lengths P) (sizes-fit s bytes) (own-fit P figures))
      ∙ ap (λ (r : List ℕ). unplaced (layout_refusal r)) written-again
      ∙ ap unplaced read in
      handed-on _ arrays ∙ long-enough 8 (sheet_from z A) (ap length written-again) long
    where
      fits : (q : ℕ) → SFits w32 (table_of (sheet_of s) q)
      fits = table_fits s bytes
