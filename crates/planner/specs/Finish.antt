-- What the parts of planning ask and give.
use Rattle.std.specs.Prelude.{◌≡◌, List, [], ℕ, ◌≤◌, ℤ, length, Result}
use Rattle.std.proofs.Math.Option.{Option}
use Rattle.rules.specs.declared.Refusal.{Refusal}
use Rattle.rules.specs.declared.PlanFigures.{PlanFigures}
use Rattle.rules.specs.Notation.{at}
use Rattle.rules.specs.Run.{Plan, gap_of}
use Rattle.rules.specs.Record.{record_length}
use Rattle.rules.specs.Refusals.{Numbered}
use Rattle.rules.specs.Answers.{outcome, outcome_of, buffer_of}
use Rattle.sheet_figures.specs.declared.Figures.{Figures}
use Rattle.sheet_figures.specs.Figures.{problem_of}
use Rattle.run_step.specs.declared.State.{State}
use Rattle.run_step.specs.Reached.{FiguresReady}
use Rattle.run_costs.specs.Costs.{GapFits}
use Rattle.out_record.specs.RecordParts.{plan_in}
use Rattle.out_record.specs.declared.Head.{Head}

-- the answer of a plan p and of the refusal that was met, if any, with the buffer afterwards
pub record Ends (p : Plan) (met : Option Numbered) (lent left : List ℕ) (result : Result PlanFigures Refusal) : Type 0
  where
    pub answered : outcome result ≡ outcome_of p met
    pub buffer : left ≡ buffer_of p lent (outcome_of p met)

-- the figures of an accepted sheet, with the coefficients in a, and a buffer that can take the record
pub record RunReady (f : Figures) (a : List ℤ) (lent : List ℕ) : Type 0 where
  pub figures : FiguresReady f a
  pub room : record_length f.materials f.limits ≤ length lent

-- the plan of a run that ended with the state w
unfoldable pub plan_with : Figures → State → Plan
plan_with f w =
    let gap = gap_of (problem_of f []) f.steps w.low (at w.sums) in
    let head : Head =
    record { materials = f.materials; limits = f.limits; steps = f.steps; low = w.low; gap = gap } in
    plan_in head w.sums w.multipliers w.totals

-- its gap fits, and the buffer can take the record
pub record WriteReady (f : Figures) (w : State) (lent : List ℕ) : Type 0 where
  pub gap : GapFits (problem_of f []) f.steps w.low (at w.sums)
  pub few : f.limits ≤ 16
  pub room : record_length f.materials f.limits ≤ length lent
