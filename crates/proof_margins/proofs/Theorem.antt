-- The theorem: for every sheet's bytes and every length of the record buffer, the answer has its margins.
use Rattle.std.specs.Prelude.{◌≡◌, refl, List, ℕ}
use Rattle.std.proofs.Math.Option.{Option, none, some}
use Rattle.rules.specs.Sheet.{sheet_of, problem}
use Rattle.rules.specs.Run.{plan_after}
use Rattle.rules.specs.Refusals.{Numbered, layout_refusal}
use Rattle.rules.specs.Answers.{outcome_of, plan_of, refusal, answer_to, answer}
use Rattle.rules.specs.Margins.{Margins}
use Rattle.proof_laws.specs.NotRefused.{otherwise-none}
use Rattle.proof_magnitudes.proofs.Accepted.{accepted}
use Rattle.proof_margins.proofs.Plans.{plan-margins}
use Rattle.proof_margins.specs.Infeasible.{RefusalMargins}
use Rattle.proof_margins.proofs.Infeasible.{refusal-margins}

module _ (sheet : List ℕ) (room : ℕ) where
  abbrev met : Option Numbered
  met = refusal (sheet_of sheet) (layout_refusal sheet) room

  -- a sheet that is not refused follows the layout
  read : met ≡ none → layout_refusal sheet ≡ none
  unfolding refusal
  read h = (otherwise-none _ _ h).0

  -- where there is a refusal, what is claimed of it; else the margins of the plan
  by-refusal : (r : Option Numbered) → met ≡ r → RefusalMargins (problem (sheet_of sheet)) r
      → Margins sheet (outcome_of (plan_of (sheet_of sheet)) r)
  unfolding Margins outcome_of plan_of plan_after
  by-refusal (some r) _ claim = claim
  by-refusal none e _ =
      plan-margins (problem (sheet_of sheet)) (accepted sheet (read e)).start-sign (sheet_of sheet).sizes.steps

-- T9.3 to T9.7, of every answer.
pub margins : (sheet : List ℕ) (room : ℕ) → Margins sheet (answer sheet room)
unfolding answer answer_to
margins sheet room = by-refusal sheet room (met sheet room) refl (refusal-margins sheet room)
