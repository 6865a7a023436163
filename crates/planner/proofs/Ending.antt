-- How planning ends: with a refusal and the buffer as lent, or with a plan and its record.
use Rattle.std.specs.Prelude.{Result, Ok, Err}
use mathlib.Core.Path.{◌≡◌, sym, subst, transport, ◌∙◌}
use mathlib.Core.List.{List, [], ◌++◌}
use mathlib.Core.Option.{Option, none, some}
use Prim.Native.Nat.{ℕ, ◌≤◌}
use lib.IntN.{ℤ}
use lib.ListN.{length, drop}
use Rattle.rules.specs.declared.PlanFigures.{PlanFigures}
use Rattle.rules.specs.Notation.{tabulate, at}
use Rattle.rules.specs.declared.Refusal.{Refusal}
use Rattle.rules.specs.Problem.{Problem, cost_of}
use Rattle.rules.specs.Sheet.{sheet_of}
use Rattle.rules.specs.Step as step
use Rattle.rules.specs.Run.{Plan, state_after, low_after, gap_of, plan_after}
use Rattle.rules.specs.Record.{record_of, record_length}
use Rattle.rules.specs.Refusals.{Numbered, numbered, layout_refusal}
use Rattle.rules.specs.Answers.{plan, plan_of, refusal, outcome, outcome_of, answer_to, answer, buffer_of, buffer_after}
use Rattle.rules.specs.Margins.{Margins}
use Rattle.rules.specs.Promise.{Promise}
use Rattle.proof_laws.specs.Lengths.{multipliers-length, sums-length, totals-length}
use Rattle.proof_margins.proofs.Theorem.{margins}
use Rattle.sheet_figures.specs.declared.Figures.{Figures}
use Rattle.sheet_figures.specs.Padded.{tabulate-at}
use Rattle.sheet_figures.specs.Figures.{problem_of}
use Rattle.run_costs.specs.Costs.{GapFits}
use Rattle.run_costs.specs.OfRun.{gap-fits}
use Rattle.run_step.specs.declared.State.{State}
use Rattle.run_step.specs.States.{state_in, closed_in}
use Rattle.run_step.specs.Reads.{multipliers-read, sums-read, totals-read}
use Rattle.run_step.specs.Reached.{Finished}
use Rattle.out_record.specs.RecordParts.{plan_in}
use Rattle.planner.specs.Finish.{Ends, plan_with, WriteReady}

-- a refusal leaves the buffer as lent
pub ends-refused : {p : Plan} {met : Option Numbered} {lent : List ℕ} (r : Refusal) → met ≡ some (numbered r)
    → Ends p met lent lent (Err r)
unfolding outcome outcome_of buffer_of
ends-refused {p} {met} {lent} r m = record {
  answered = λ i. outcome_of p (sym m i);
  buffer = λ i. buffer_of p lent (outcome_of p (sym m i));
}

-- a plan is followed in the buffer by the rest as lent
pub ends-planned : {p : Plan} {lent left : List ℕ} {low gap : ℤ} → low ≡ p.low → gap ≡ p.gap
    → left ≡ record_of p ++ drop (record_length p.materials p.limits) lent
    → Ends p none lent left (Ok (record { low = low; gap = gap }))
unfolding outcome outcome_of buffer_of
ends-planned l g b = record { answered = λ i. plan (l i) (g i); buffer = b }

-- the same end, by another plan and another refusal that are equal
pub ends_same : {p q : Plan} {met first : Option Numbered} {lent left : List ℕ} {r : Result PlanFigures Refusal}
    → p ≡ q → met ≡ first → Ends p met lent left r → Ends q first lent left r
ends_same {lent = lent} {left = left} {r = r} e m h = transport (λ i. Ends (e i) (m i) lent left r) h

-- ---- the plan that stands in the arrays at the end of the run
module _ (f : Figures) (a : List ℤ) {w : State} (finished : Finished f a f.steps w) where
  abbrev P : Problem
  P = problem_of f a

  abbrev last : step.State
  last = state_after P f.steps

  low-is : w.low ≡ low_after P f.steps
  unfolding closed_in
  low-is = λ i. (finished.state i).low

  sums-are : at w.sums ≡ at last.sums
  unfolding closed_in state_in
  sums-are = sums-read finished.accepted f.steps (λ k. (finished.state k).sums)

  sums_kept : tabulate f.materials (at w.sums) ≡ last.sums
  sums_kept =
      (λ i. tabulate f.materials (sums-are i))
      ∙ tabulate-at f.materials last.sums (sums-length P f.steps)

  multipliers-kept : tabulate f.limits (at w.multipliers) ≡ last.multipliers
  unfolding closed_in state_in
  multipliers-kept =
      (λ i.
      tabulate f.limits (multipliers-read finished.accepted f.steps (λ k. (finished.state k).multipliers) i))
      ∙ tabulate-at f.limits last.multipliers (multipliers-length P f.steps)

  totals-kept : tabulate f.limits (at w.totals) ≡ last.residual_totals
  unfolding closed_in state_in
  totals-kept =
      (λ i.
      tabulate f.limits (totals-read finished.accepted f.steps (λ k. (finished.state k).totals) i))
      ∙ tabulate-at f.limits last.residual_totals (totals-length P f.steps)

  pub plan-in-arrays : plan_with f w ≡ plan_after P f.steps
  unfolding plan_with plan_in plan_after gap_of cost_of
  plan-in-arrays = λ i. record {
    materials = f.materials;
    limits = f.limits;
    steps = f.steps;
    low = low-is i;
    gap = gap_of P f.steps (low-is i) (sums-are i);
    sums = sums_kept i;
    multipliers = multipliers-kept i;
    residual_totals = totals-kept i;
  }

  pub write-ready : {lent : List ℕ} → record_length f.materials f.limits ≤ length lent → WriteReady f w lent
  write-ready room = record {
    gap =
        transport
        (λ k. GapFits (problem_of f []) f.steps (sym low-is k) (sym sums-are k))
        (gap-fits f a finished.accepted f.steps finished.few finished.going);
    few = finished.accepted.limits-few;
    room = room;
  }

-- ---- the promise, from the end
pub promised : {sheet lent left : List ℕ} {r : Result PlanFigures Refusal}
    → Ends (plan_of (sheet_of sheet)) (refusal (sheet_of sheet) (layout_refusal sheet) (length lent)) lent left r
    → Promise sheet lent left r
unfolding answer answer_to buffer_after
promised {sheet} {lent} e = record {
  answered = e.answered;
  buffer = e.buffer;
  margins = subst (Margins sheet) (sym e.answered) (margins sheet (length lent));
}
