-- Before step t, no step was refused, and what the last one handed back is the state after t steps.
use Rattle.std.proofs.Common.{◌≡◌, Ok}
use Rattle.run_step.specs.Reached.{Reached}
use Rattle.run_steps.proofs.run.Given as goal

abbrev pub invariant-loop-t : goal.invariant-loop-t
invariant-loop-t l = (l.r.stop ≡ Ok tt) × Reached l.f l.coefficient l.t l.r.state
