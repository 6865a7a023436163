-- T10.2: a buffer that takes the longest record takes that of every sheet, so that refusal 8 is not given.
use Rattle.std.specs.Prelude.{ℕ, ◌<◌, ◌≤◌, List, T, ltb}
use Rattle.std.proofs.Math.Option.{Option, none, some}
use Rattle.std.proofs.Common.{arith}
use Rattle.std.proofs.Math.Facts.{ltb_yes}
use Rattle.rules.specs.Problem.{Problem}
use Rattle.rules.specs.Sheet.{sheet_of, problem}
use Rattle.rules.specs.Record.{longest_record}
use Rattle.rules.specs.Run.{Plan}
use Rattle.rules.specs.Refusals.{Numbered, layout_refusal}
use Rattle.rules.specs.Answers.{look_refusal, refusal_at, step_refusal, run_refusal}
use Rattle.rules.specs.Answers.{plan_refusal}
use Rattle.rules.specs.Answers.{refusal, outcome_of, plan_of, answer_to, answer}
use Rattle.proof_laws.specs.Given.{Given, otherwise-given, first-given, refuse-given, layout-given}
use Rattle.proof_magnitudes.proofs.Accepted.{accepted}
use Rattle.proof_magnitudes.specs.LongestRecord.{record-short, Not8}

-- what is at most the room is not above it
not-above : {wanted room : ℕ} → wanted ≤ room → T (ltb room wanted) → ⊥
not-above {wanted} {room} short long = let above : room < wanted = ltb_yes long in omega arith

-- ---- the chain of refusals: a look, the run, and then the whole
look-not-8 : (P : Problem) (t : ℕ) → Given 8 ⊥ (look_refusal P t)
unfolding look_refusal
look-not-8 P t = refuse-given _ _ 9 t _ (λ _ e. omega arith)

run-not-8 : (P : Problem) (k : ℕ) → Given 8 ⊥ (run_refusal P k)
unfolding run_refusal step_refusal refusal_at
run-not-8 P k =
    otherwise-given _ _ _ _
    (first-given _ _ k _ (λ t.
    otherwise-given _ _ _ _ (look-not-8 P t) (λ _. refuse-given _ _ 10 t _ (λ _ e. omega arith))))
    (λ _. look-not-8 P k)

chain-not-8 : (s : List ℕ) → Given 8 ⊥ (refusal (sheet_of s) (layout_refusal s) longest_record)
unfolding refusal plan_refusal
chain-not-8 s =
    otherwise-given _ _ _ _ (layout-given _ _ (omega arith) s)
    (λ h.
    otherwise-given _ _ _ _ (refuse-given _ _ 8 _ _ (λ long _. not-above (record-short (accepted s h)) long))
    (λ _. run-not-8 (problem (sheet_of s)) (sheet_of s).sizes.steps))

-- ---- the answer
answer-not-8 : (p : Plan) (met : Option Numbered) → Given 8 ⊥ met → Not8 (outcome_of p met)
unfolding outcome_of
answer-not-8 p none g = tt
answer-not-8 p (some r) g = g

pub never-8 : (s : List ℕ) → Not8 (answer s longest_record)
unfolding answer answer_to
never-8 s = answer-not-8 (plan_of (sheet_of s)) _ (chain-not-8 s)
