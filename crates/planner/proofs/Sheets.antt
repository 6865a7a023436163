-- The figures of a sheet that is read, in arrays, give the sheet's own run.
use mathlib.Core.Path.{◌≡◌, sym, ap, transport, ◌∙◌}
use mathlib.Core.List.{List}
use mathlib.Core.Option.{none, some}
use Rattle.std.specs.Prelude.{Ok}
use Prim.Native.Nat.{ℕ}
use lib.Dec.{ltb}
use lib.IntN.{ℤ}
use lib.ListN.{length}
use Rattle.rules.specs.Notation.{tabulate, at}
use Rattle.rules.specs.Problem.{Problem}
use Rattle.rules.specs.Sheet.{sheet_of, problem}
use Rattle.rules.specs.Run.{plan_after}
use Rattle.rules.specs.Record.{record_length}
use Rattle.rules.specs.Refusals.{Numbered, refuse, ◌otherwise◌, layout_refusal}
use Rattle.rules.specs.Answers.{plan_refusal, plan_of, refusal}
use Rattle.proof_laws.specs.FirstPlace.{given, handed-on}
use Rattle.proof_laws.specs.Agreeing.{same-refusal, same-plan}
use Rattle.proof_magnitudes.proofs.Accepted.{accepted}
use Rattle.sheet_figures.specs.declared.Figures.{Figures}
use Rattle.sheet_figures.specs.Figures.{figures_of, problem_of, array_whole}
use Rattle.sheet_figures.specs.Padded.{padded}
use Rattle.sheet_read.specs.Reading.{Reads}
use Rattle.sheet_read.specs.Agreeing.{figures-are, steps-are, agree, accepted-in-arrays}
use Rattle.run_step.specs.Reached.{FiguresReady}

-- ---- a sheet that is read, with its figures in arrays
module _ (s : List ℕ) (read : layout_refusal s ≡ none) (lent : List ℤ) (long : length lent ≡ 512)
    {a : List ℤ} {F : Figures} (reads : Reads (sheet_of s) (layout_refusal s) lent a (Ok F)) where
  abbrev P : Problem
  P = problem (sheet_of s)

  pub figures-ready : FiguresReady F a
  unfolding figures_of
  figures-ready =
      let G = sym (figures-are s read lent long reads) in
      record {
        accepted = accepted-in-arrays s read lent long reads;
        starts =
            transport (λ i. (G i).start ≡ padded 16 (tabulate (G i).limits (at (G i).start)))
            (array_whole 16 P.limits P.starting_multiplier (accepted s read).limits-few);
      }

  pub plan-is : plan_after (problem_of F a) F.steps ≡ plan_of (sheet_of s)
  unfolding plan_of
  plan-is = same-plan (agree s read lent long reads) F.steps ∙ ap (plan_after P) (steps-are s read lent long reads)

  -- refusals 8 to 10 of the figures are those of the sheet
  pub refusal_is : (room : ℕ)
      → plan_refusal (problem_of F a) F.steps room ≡ refusal (sheet_of s) (layout_refusal s) room
  unfolding refusal plan_refusal
  refusal_is room =
      let same = agree s read lent long reads in
      let wanted : record_length F.materials F.limits ≡ record_length P.materials P.limits =
      (λ i. record_length (same.materials i) (same.limits i)) in
      (λ i. refuse 8 (wanted i) (ltb room (wanted i)) otherwise same-refusal same F.steps i)
      ∙ ap (λ (k : ℕ). plan_refusal P k room) (steps-are s read lent long reads)
      ∙ sym (handed-on (plan_refusal P (sheet_of s).sizes.steps room) read)

-- ---- a sheet that is not read
pub layout-refused : (s : List ℕ) (room : ℕ) {r : Numbered} → layout_refusal s ≡ some r
    → refusal (sheet_of s) (layout_refusal s) room ≡ some r
unfolding refusal
layout-refused s room h = given _ h
