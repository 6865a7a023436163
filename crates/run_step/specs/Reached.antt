-- What a run asks of the figures; a state that its steps lead to, and what a look and a step ask of it; the end of a
-- run.
use Rattle.std.specs.Prelude.{◌≡◌, List, ℕ, ◌≤◌, ℤ, pos, ◌*ℤ◌}
use Rattle.std.proofs.Math.Option.{none}
use Rattle.rules.specs.Notation.{tabulate, at}
use Rattle.rules.specs.Step.{greatest_cost}
use Rattle.rules.specs.Answers.{step_refusal, run_refusal}
use Rattle.proof_magnitudes.specs.Accepted.{Accepted}
use Rattle.sheet_figures.specs.declared.Figures.{Figures}
use Rattle.sheet_figures.specs.Figures.{problem_of}
use Rattle.sheet_figures.specs.Padded.{padded}
use Rattle.run_step.specs.declared.State.{State}
use Rattle.run_step.specs.States.{reached_in, closed_in}

-- the figures, with the coefficients in a, are those of an accepted sheet, and no start stands past those of its limits
pub record FiguresReady (f : Figures) (a : List ℤ) : Type 0 where
  pub accepted : Accepted (problem_of f a) f.steps
  pub starts : f.start ≡ padded 16 (tabulate f.limits (at f.start))

-- the figures are those of an accepted sheet, and k steps of its run, of which none is refused, lead to the state w
pub record Reached (f : Figures) (a : List ℤ) (k : ℕ) (w : State) : Type 0 where
  pub accepted : Accepted (problem_of f a) f.steps
  pub few : k ≤ f.steps
  pub going : step_refusal (problem_of f a) k ≡ none
  pub state : w ≡ reached_in (problem_of f a) k

-- the state after t steps, and D times the greatest cost
pub record LookReady (f : Figures) (a : List ℤ) (greatest : ℤ) (t : ℕ) (w : State) : Type 0 where
  pub reached : Reached f a t w
  pub greatest-is : greatest ≡ pos f.scale *ℤ greatest_cost (problem_of f a)

-- the figures are those of an accepted sheet, and a run of k steps, which is not refused, ends with the state w
pub record Finished (f : Figures) (a : List ℤ) (k : ℕ) (w : State) : Type 0 where
  pub accepted : Accepted (problem_of f a) f.steps
  pub few : k ≤ f.steps
  pub going : run_refusal (problem_of f a) k ≡ none
  pub state : w ≡ closed_in (problem_of f a) k
