-- The lists of a state and of a look have n and m elements.
use Rattle.std.specs.Prelude.{◌≡◌, length}
use Prim.Native.Nat.{ℕ, zero, suc}
use Rattle.proof_integer.specs.Vector.{length-tabulate}
use Rattle.rules.specs.Problem.{Problem}
use Rattle.rules.specs.Step.{look_at, next}
use Rattle.rules.specs.Run.{starting_state, state_after, look_after}

module _ (P : Problem) where
  pub multipliers-length : (t : ℕ) → length (state_after P t).multipliers ≡ P.limits
  unfolding state_after starting_state next
  multipliers-length zero = length-tabulate P.limits _
  multipliers-length (suc t) = length-tabulate P.limits _

  pub sums-length : (t : ℕ) → length (state_after P t).sums ≡ P.materials
  unfolding state_after starting_state next
  sums-length zero = length-tabulate P.materials _
  sums-length (suc t) = length-tabulate P.materials _

  pub totals-length : (t : ℕ) → length (state_after P t).residual_totals ≡ P.limits
  unfolding state_after starting_state next
  totals-length zero = length-tabulate P.limits _
  totals-length (suc t) = length-tabulate P.limits _

  pub amounts-length : (t : ℕ) → length (look_after P t).amounts ≡ P.materials
  unfolding look_after look_at
  amounts-length t = length-tabulate P.materials _

  pub residuals-length : (t : ℕ) → length (look_after P t).residuals ≡ P.limits
  unfolding look_after look_at
  residuals-length t = length-tabulate P.limits _
