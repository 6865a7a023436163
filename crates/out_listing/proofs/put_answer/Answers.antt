-- A plan's lines, or the refusal's line.
use Rattle.std.specs.Prelude.{Result}
use Rattle.std.proofs.Common.{◌≡◌, ℕ, List, sym, ap}
use Rattle.rules.specs.declared.Refusal.{Refusal}
use Rattle.rules.specs.declared.PlanFigures.{PlanFigures}
use Rattle.rules.specs.Answers.{outcome}
use Rattle.rules.specs.Listing.{text_from}
use Rattle.out_lines.specs.Lines.{Begins, begins-as}
use Rattle.out_listing.proofs.put_answer.Goals as goal

-- the text of the case that was found is the text of the answer
text_of : (r : List ℕ) {a b : Result PlanFigures Refusal} {d d' : List ℕ} {end : ℕ} → a ≡ b
    → Begins (text_from (outcome b) r) d d' end → Begins (text_from (outcome a) r) d d' end
text_of r told put = begins-as (ap (λ x. text_from (outcome x) r) (sym told)) put

pub returns-in-Ok : goal.returns-in-Ok
unfolding text_from outcome
returns-in-Ok c = text_of c.args.«record».now c.in-Ok.is c.put_record.ensures

pub returns-in-Err : goal.returns-in-Err
unfolding text_from outcome
returns-in-Err c = text_of c.args.«record».now c.in-Err.is c.put_refusal.ensures
