-- TASK.md, T7: the answer to a sheet, and the lent buffer afterwards.
use Rattle.std.specs.Prelude.{ℕ, suc, List, ◌++◌, length, drop, ℤ, ltb, Result, Ok, Err}
use Rattle.std.proofs.Math.Option.{Option, none, some}
use Rattle.rules.specs.declared.PlanFigures.{PlanFigures}
use Rattle.rules.specs.declared.Refusal.{Refusal}
use Rattle.rules.specs.Problem.{Problem}
use Rattle.rules.specs.Sheet.{Sheet, sheet_of, problem}
use Rattle.rules.specs.Step.{infeasible, diverged}
use Rattle.rules.specs.Run.{Plan, state_after, look_after, plan_after}
use Rattle.rules.specs.Record.{record_of, record_length}
use Rattle.rules.specs.Refusals.{Numbered, numbered, refuse, ◌otherwise◌, first_below, layout_refusal}

-- T7.1, the answer: the low and the gap of a plan, or a refusal.
pub data Outcome : Type 0 where
  plan : (low gap : ℤ) → Outcome
  refused : Numbered → Outcome

-- what each case of the code's answer stands for
unfoldable pub outcome : Result PlanFigures Refusal → Outcome
outcome (Ok figures) = plan figures.low figures.gap
outcome (Err r) = refused (numbered r)

-- T7.4, refusal 9 of the look at the multipliers after t steps: that of step t, and that which closes a run of t
-- steps. The place is t.
unfoldable pub look_refusal : Problem → ℕ → Option Numbered
look_refusal P t = refuse 9 t (infeasible P (look_after P t))

-- T7.3, refusals 9 and 10 at step t, 9 before 10: of what the step works out, and of the multipliers after it. The
-- place is the step's number.
unfoldable pub refusal_at : Problem → ℕ → Option Numbered
refusal_at P t = look_refusal P t otherwise refuse 10 t (diverged P (state_after P (suc t)).multipliers)

-- T5.7, the refusal of the first of k steps that is refused
unfoldable pub step_refusal : Problem → ℕ → Option Numbered
step_refusal P k = first_below k (refusal_at P)

-- T7.3, the refusal of a run of c steps: that of the steps, and then that of the closing look
unfoldable pub run_refusal : Problem → ℕ → Option Numbered
run_refusal P c = step_refusal P c otherwise look_refusal P c

-- T7.4, refusal 8, of a record buffer of `room` bytes, and then those of a run of k steps
unfoldable pub plan_refusal : Problem → ℕ → ℕ → Option Numbered
plan_refusal P k room =
    let wanted = record_length P.materials P.limits in
    refuse 8 wanted (ltb room wanted) otherwise run_refusal P k

-- a refusal where there is one, else the plan's figures
unfoldable pub outcome_of : Plan → Option Numbered → Outcome
outcome_of p none = plan p.low p.gap
outcome_of p (some r) = refused r

-- Of a sheet that has been read, and what its layout was refused with, if anything:
module _ (S : Sheet) where
  -- the plan of a sheet that is not refused
  unfoldable pub plan_of : Plan
  plan_of = plan_after (problem S) S.sizes.steps

  -- its one refusal, if any: that of the layout, then 8, then those of the run
  unfoldable pub refusal : Option Numbered → ℕ → Option Numbered
  refusal layout room = layout otherwise plan_refusal (problem S) S.sizes.steps room

  -- the answer to it
  unfoldable pub answer_to : Option Numbered → ℕ → Outcome
  answer_to layout room = outcome_of plan_of (refusal layout room)

-- T7.1, the answer to a sheet's bytes and a record buffer of `room` bytes.
unfoldable pub answer : List ℕ → ℕ → Outcome
answer s room = answer_to (sheet_of s) (layout_refusal s) room

-- T6.3, for a plan the record, then the rest as lent; T7.2, for a refusal the buffer as lent
unfoldable pub buffer_of : Plan → List ℕ → Outcome → List ℕ
buffer_of p lent (plan low gap) = record_of p ++ drop (record_length p.materials p.limits) lent
buffer_of p lent (refused r) = lent

-- The lent buffer afterwards.
unfoldable pub buffer_after : List ℕ → List ℕ → List ℕ
buffer_after s lent = buffer_of (plan_of (sheet_of s)) lent (answer s (length lent))
