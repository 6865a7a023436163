-- The state of the run in arrays, and what steps and looks hand back.
use Rattle.std.specs.Prelude.{◌≡◌, ℕ}
use Rattle.std.proofs.Math.Option.{Option, none, some}
use Rattle.rules.specs.Problem.{Problem}
use Rattle.rules.specs.Step as step
use Rattle.rules.specs.Run.{state_after, low_after}
use Rattle.rules.specs.Refusals.{Numbered, refusal_of}
use Rattle.sheet_figures.specs.Padded.{padded}
use Rattle.run_step.specs.declared.State.{State}
use Rattle.run_step.specs.declared.Stepped.{Stepped}

-- a state in arrays of 16 and 32 places: the places past m and n hold 0
unfoldable pub state_in : step.State → State
state_in w = record {
  multipliers = padded 16 w.multipliers;
  sums = padded 32 w.sums;
  totals = padded 16 w.residual_totals;
  low = w.lower_bound;
}

-- Of the run of P:
module _ (P : Problem) where
  -- the state after t steps
  abbrev pub reached_in : ℕ → State
  reached_in t = state_in (state_after P t)

  -- the state after c steps and the closing look (T5.8), which changes low alone
  unfoldable pub closed_in : ℕ → State
  closed_in c = record {
    multipliers = (reached_in c).multipliers;
    sums = (reached_in c).sums;
    totals = (reached_in c).totals;
    low = low_after P c;
  }

  -- the state that is handed back: the one at the end, or at a refusal that after the steps before it
  unfoldable pub handed_state : State → Option Numbered → State
  handed_state done none = done
  handed_state done (some r) = reached_in r.place

  -- What is handed back where the state at the end is `done`, with the refusal that was met, if any: the stop, and
  -- beside it the whole state.
  pub record HandedBack (done : State) (met : Option Numbered) (r : Stepped) : Type 0 where
    pub stop : refusal_of r.stop ≡ met
    pub state : r.state ≡ handed_state done met
