-- One turn of the run: a step that goes on, and one that is refused; and the closing look after the last.
use Rattle.std.specs.Prelude.{Ok, Err}
use Rattle.std.proofs.Common.{◌≡◌, ℕ, suc, ◌+◌, ◌<◌, sym, ap, ◌∙◌, add-one}
use mathlib.Core.Path.{transport}
use Rattle.std.proofs.Math.Option.{none, some}
use Rattle.rules.specs.declared.Refusal.{Refusal}
use Rattle.rules.specs.Problem.{Problem}
use Rattle.rules.specs.Refusals.{numbered, refusal_of}
use Rattle.rules.specs.Answers.{look_refusal, refusal_at, step_refusal, run_refusal}
use Rattle.proof_laws.specs.FirstPlace.{first_more, first_found, given, handed-on}
use Rattle.run_step.specs.declared.State.{State}
use Rattle.run_step.specs.declared.Stepped.{Stepped}
use Rattle.run_step.specs.States.{reached_in, handed_state, HandedBack}

-- ---- one turn of the run, where no step before t is refused
module _ (P : Problem) (t : ℕ) {r : Stepped}
    (before : step_refusal P t ≡ none) (h : HandedBack P (reached_in P (suc t)) (refusal_at P t) r) where
  -- the step goes on
  module _ (g : r.stop ≡ Ok tt) where
    none_here : refusal_at P t ≡ none
    unfolding refusal_of
    none_here = sym h.stop ∙ ap refusal_of g

    pub still-going : step_refusal P (t + 1) ≡ none
    unfolding step_refusal
    still-going = first_more (refusal_at P) before none_here

    pub next-state : r.state ≡ reached_in P (t + 1)
    unfolding handed_state
    next-state =
        h.state
        ∙ (λ i. handed_state P (reached_in P (suc t)) (none_here i))
        ∙ (λ i. reached_in P (sym (add-one t) i))

  -- the step is refused
  pub hands_on : (k : ℕ) → t < k → {x : Refusal} {done : State} → r.stop ≡ Err x
      → HandedBack P done (run_refusal P k) r
  unfolding refusal_of handed_state step_refusal run_refusal
  hands_on k l {x} {done} g =
      let here : refusal_at P t ≡ some (numbered x) = sym h.stop ∙ ap refusal_of g in
      let first : run_refusal P k ≡ some (numbered x) = given _ (first_found (refusal_at P) k l before here) in
      record {
        stop = ap refusal_of g ∙ sym first;
        state =
            h.state
            ∙ (λ i. handed_state P (reached_in P (suc t)) (here i))
            ∙ (λ i. handed_state P done (sym first i));
      }

-- ---- the closing look of c steps, of which none is refused
pub hands-closed : (P : Problem) (c : ℕ) {done : State} {r : Stepped} → step_refusal P c ≡ none
    → HandedBack P done (look_refusal P c) r → HandedBack P done (run_refusal P c) r
unfolding run_refusal
hands-closed P c {done} {r} going h =
    transport (λ i. HandedBack P done (sym (handed-on (look_refusal P c) going) i) r) h
