-- After i turns the sum has its first i products.
use Rattle.std.proofs.Common.{◌≡◌, ◌+ℤ◌, ◌*ℤ◌, map}
use Rattle.rules.specs.Notation.{sum_to, at}
use Rattle.run_sums.proofs.dot.Given as goal

abbrev pub invariant-loop-i : goal.invariant-loop-i
invariant-loop-i g l =
    let t = g.T.Total in
    t.value l.sum
    ≡ t.value l.fn.first +ℤ sum_to l.i (λ i. at (map t.part_value l.x) i *ℤ at (map t.part_value l.y) i)
