-- After i turns the first i places hold their moved multipliers, none of them too large.
use Rattle.std.proofs.Common.{◌≡◌, ℕ, List, ℤ, false}
use Rattle.rules.specs.Notation.{any_below, at}
use Rattle.rules.specs.Problem.{Problem}
use Rattle.rules.specs.Step.{moved}
use Rattle.run_moves.specs.Moves.{limits_of, too_large}
use Rattle.run_totals.specs.Changed.{Changed}
use Rattle.run_moves.proofs.move_multipliers.Given as goal

pub record Turn (P : Problem) (old : List ℤ) (g : ℕ → ℤ) (new : List ℤ) (i : ℕ) : Type 0 where
  pub small : any_below i (too_large P (at old) g) ≡ false
  pub done : Changed i (moved P (at old) g) old new

abbrev pub invariant-loop-i : goal.invariant-loop-i
invariant-loop-i l = Turn (limits_of l.f) l.initial.multipliers (at l.residuals) l.multipliers l.i
