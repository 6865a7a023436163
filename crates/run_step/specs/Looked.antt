-- What a look after t steps asks, and what it hands back: the look of the run, or refusal 9.
use Rattle.std.specs.Prelude.{◌≡◌, true, false, List, ℕ, ℤ, pos, replicate, Result, Ok, Err}
use Rattle.rules.specs.declared.Cause.TheVariants.{Infeasible}
use Rattle.rules.specs.declared.Refusal.{Refusal}
use Rattle.rules.specs.Problem.{Problem}
use Rattle.rules.specs.Step.{infeasible}
use Rattle.rules.specs.Run.{look_after}
use Rattle.sheet_figures.specs.declared.Figures.{Figures}
use Rattle.sheet_figures.specs.Padded.{padded}
use Rattle.run_step.specs.declared.State.{State}
use Rattle.run_step.specs.Reached.{LookReady}

-- the state after t steps, and two arrays of zeros
pub record LookAsks (f : Figures) (a : List ℤ) (greatest : ℤ) (t : ℕ) (w : State) (amounts residuals : List ℤ)
    : Type 0 where
  pub ready : LookReady f a greatest t w
  pub no-amounts : amounts ≡ replicate 32 (pos 0)
  pub no-residuals : residuals ≡ replicate 16 (pos 0)

-- the dual value is no larger than D times the greatest cost
pub record Feasible (P : Problem) (t : ℕ) (value : ℤ) : Type 0 where
  pub test : infeasible P (look_after P t) ≡ false
  pub is : value ≡ (look_after P t).dual_value

-- it is larger
pub record TooLarge (P : Problem) (t : ℕ) (refusal : Refusal) : Type 0 where
  pub test : infeasible P (look_after P t) ≡ true
  pub is : refusal ≡ record { place = t; cause = Infeasible }

abbrev pub ValueOrRefusal : Problem → ℕ → Result ℤ Refusal → Type 0
ValueOrRefusal P t (Ok value) = Feasible P t value
ValueOrRefusal P t (Err refusal) = TooLarge P t refusal

-- the amounts and the residuals in arrays of 32 and 16 places, and what comes back
pub record Looked (P : Problem) (t : ℕ) (amounts residuals : List ℤ) (r : Result ℤ Refusal) : Type 0 where
  pub amounts-are : amounts ≡ padded 32 (look_after P t).amounts
  pub residuals-are : residuals ≡ padded 16 (look_after P t).residuals
  pub back : ValueOrRefusal P t r
