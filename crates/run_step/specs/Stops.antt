-- What steps and looks hand back, where they are refused and where they are not.
use Rattle.std.specs.Prelude.{◌≡◌, true, false, ℕ, suc, Ok, Err}
use Rattle.std.proofs.Math.Path.{sym, ap}
use Rattle.std.proofs.Common.{◌∙◌}
use Rattle.std.proofs.Math.Option.{Option, none, some}
use Rattle.rules.specs.declared.Refusal.{Refusal}
use Rattle.rules.specs.Problem.{Problem}
use Rattle.rules.specs.Step.{infeasible, diverged}
use Rattle.rules.specs.Run.{state_after, look_after}
use Rattle.rules.specs.Refusals.{Numbered, numbered, refusal_of}
use Rattle.rules.specs.Answers.{look_refusal, refusal_at}
use Rattle.proof_laws.specs.FirstPlace.{refuse-yes, refuse-no, given, handed-on}
use Rattle.run_step.specs.declared.State.{State}
use Rattle.run_step.specs.declared.Stepped.{Stepped}
use Rattle.run_step.specs.States.{reached_in, handed_state, HandedBack}

-- ---- the refusals of the look after t steps, and of step t, by their tests
module _ (P : Problem) (t : ℕ) where
  pub look-refused : infeasible P (look_after P t) ≡ true → look_refusal P t ≡ some (record { number = 9; place = t })
  unfolding look_refusal
  look-refused h = refuse-yes 9 t h

  pub refused-9 : infeasible P (look_after P t) ≡ true → refusal_at P t ≡ some (record { number = 9; place = t })
  unfolding refusal_at
  refused-9 h = given _ (look-refused h)

  module _ (feasible : infeasible P (look_after P t) ≡ false) where
    pub look-passed : look_refusal P t ≡ none
    unfolding look_refusal
    look-passed = refuse-no 9 t feasible

    pub refused-10 : diverged P (state_after P (suc t)).multipliers ≡ true
        → refusal_at P t ≡ some (record { number = 10; place = t })
    unfolding refusal_at
    refused-10 h = handed-on _ look-passed ∙ refuse-yes 10 t h

    pub not-refused : diverged P (state_after P (suc t)).multipliers ≡ false → refusal_at P t ≡ none
    unfolding refusal_at
    not-refused h = handed-on _ look-passed ∙ refuse-no 10 t h

-- ---- what is handed back
module _ (P : Problem) {done : State} {met : Option Numbered} {r : Stepped} where
  -- at a refusal, the state after the steps before it
  pub hands-stop : {w : State} (refusal : Refusal) → r ≡ record { stop = Err refusal; state = w }
      → met ≡ some (numbered refusal) → w ≡ reached_in P refusal.place → HandedBack P done met r
  unfolding refusal_of handed_state numbered
  hands-stop refusal e m s = record {
    stop = (λ i. refusal_of (e i).stop) ∙ sym m;
    state = (λ i. (e i).state) ∙ s ∙ (λ i. handed_state P done (sym m i));
  }

  -- and else the state at the end
  pub hands-state : r.stop ≡ Ok tt → met ≡ none → r.state ≡ done → HandedBack P done met r
  unfolding refusal_of handed_state
  hands-state g m s = record { stop = ap refusal_of g ∙ sym m; state = s ∙ (λ i. handed_state P done (sym m i)) }
