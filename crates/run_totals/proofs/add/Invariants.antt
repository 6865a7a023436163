-- After i turns the first i places hold their totals.
use Rattle.std.proofs.Common.{◌+ℤ◌, map}
use Rattle.rules.specs.Notation.{at}
use Rattle.run_totals.specs.Changed.{Changed}
use Rattle.run_totals.proofs.add.Given as goal

abbrev pub invariant-loop-i : goal.invariant-loop-i
invariant-loop-i g l =
    let t = g.T.Total in
    let old = map t.value l.initial.totals in
    Changed l.i (λ i. at old i +ℤ at (map t.part_value l.more) i) old (map t.value l.totals)
