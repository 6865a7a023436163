-- What can be read out of the answer to a sheet and the buffer afterwards is the listing of the sheet.
use Rattle.std.specs.Prelude.{◌≡◌, List, ℕ, length, Result}
use Rattle.std.proofs.Math.Path.{refl}
use Rattle.std.proofs.Common.{ap, ◌∙◌}
use Rattle.std.proofs.Math.Option.{Option, none, some}
use Rattle.std.proofs.Math.ListN.{drop}
use Rattle.rules.specs.declared.Refusal.{Refusal}
use Rattle.rules.specs.declared.PlanFigures.{PlanFigures}
use Rattle.rules.specs.Sheet.{sheet_of}
use Rattle.rules.specs.Run.{Plan, plan_after}
use Rattle.rules.specs.Record.{record_length}
use Rattle.rules.specs.Refusals.{Numbered, layout_refusal}
use Rattle.rules.specs.Answers.{plan_of, plan_refusal, refusal, outcome, outcome_of}
use Rattle.rules.specs.Answers.{answer_to, answer, buffer_of, buffer_after}
use Rattle.rules.specs.Listing.{text_of, text_from, listing}
use Rattle.rules.specs.Promise.{Promise}
use Rattle.proof_laws.specs.NotRefused.{otherwise-none}
use Rattle.proof_magnitudes.proofs.Accepted.{accepted}
use Rattle.proof_magnitudes.proofs.PlanFits.{plan-fits}
use Rattle.out_layout.specs.RecordSizes.{RecordSizes}
use Rattle.out_record.specs.RoundTrip.{round_trip, holds-record}

module _ (s lent : List ℕ) where
  abbrev p : Plan
  p = plan_of (sheet_of s)

  -- where a refusal is met, and where none is
  by : (met : Option Numbered) → refusal (sheet_of s) (layout_refusal s) (length lent) ≡ met
      → text_from (outcome_of p met) (buffer_of p lent (outcome_of p met)) ≡ text_of p (outcome_of p met)
  unfolding refusal plan_refusal plan_after plan_of outcome_of buffer_of text_from text_of
  by (some r) e = refl
  by none e =
      let (layout, later) = otherwise-none _ _ e in
      let a = accepted s layout in
      let fits = plan-fits a (otherwise-none _ _ later).1 in
      let rest = drop (record_length p.materials p.limits) lent in
      let sizes : RecordSizes p.materials p.limits =
      record { materials = a.materials-few; limits = a.limits-few } in
      rw (holds-record fits sizes rest, round_trip fits rest)

  -- the law for every sheet and every buffer
  pub listing-of-record : text_from (answer s (length lent)) (buffer_after s lent) ≡ listing s (length lent)
  unfolding answer answer_to buffer_after listing
  listing-of-record = by (refusal (sheet_of s) (layout_refusal s) (length lent)) refl

-- What a planned sheet's answer and record say is the listing of the sheet.
pub listing-is : {s lent after : List ℕ} {result : Result PlanFigures Refusal} {room : ℕ} → Promise s lent after result
    → length lent ≡ room → text_from (outcome result) after ≡ listing s room
listing-is {s} {lent} p long =
    (λ k. text_from (p.answered k) (p.buffer k)) ∙ listing-of-record s lent ∙ ap (listing s) long
