-- The room takes every text, and what is printed ends inside it.
use Rattle.std.proofs.Common.{rules}
use Rattle.rules_mps.specs.Mps.{longest_mps}
use Rattle.out_listing.specs.WholeText.{listed-within}
use Rattle.batchmps.proofs.main.Goals as goal

pub run-requires-clause-callable : goal.run-requires-clause-callable
unfolding longest_mps
run-requires-clause-callable c = λ sheet lent same. search rules

pub run-requires-clause-ends : goal.run-requires-clause-ends
run-requires-clause-ends c =
    λ sheet lent end after same printed. let within = listed-within printed.0 in search rules
