-- T9.7: refusal 9 is given only where there is no feasible point.
use Rattle.std.proofs.Math.Option.{Option}
use Rattle.rules.specs.Problem.{Problem, NoneFeasible}
use Rattle.rules.specs.Refusals.{Numbered}
use Rattle.proof_laws.specs.Given.{Given}

-- what T9.7 claims of a refusal, if there is one
abbrev pub RefusalMargins : Problem → Option Numbered → Type 0
RefusalMargins P = Given 9 (NoneFeasible P)
