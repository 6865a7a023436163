-- The amounts of a step are minimal, by T4.3.
use Rattle.std.specs.Prelude.{ℤ}
use Prim.Native.Nat.{ℕ}
use Rattle.rules.specs.Problem.{Problem}
use Rattle.rules.specs.Step.{reduced_cost, amount}
use Rattle.proof_magnitudes.specs.Minimal.{AllMinimal, rule-minimal}
use Rattle.proof_magnitudes.specs.Steps.{entering, amounts, amounts-are}

module _ (P : Problem) where
  chosen-minimal : (M : ℕ → ℤ) → AllMinimal P (reduced_cost P M) (amount P M)
  unfolding amount
  chosen-minimal M j _ = rule-minimal (reduced_cost P M j) (P.least j) (P.most j)

  pub amounts-minimal : (t : ℕ) → AllMinimal P (reduced_cost P (entering P t)) (amounts P t)
  amounts-minimal t j l = rw (amounts-are P t j l) (chosen-minimal (entering P t) j l)
