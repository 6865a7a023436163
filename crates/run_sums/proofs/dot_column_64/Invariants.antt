-- After i turns the sum has its first i products.
use Rattle.std.proofs.Common.{◌≡◌, ◌+◌, ◌*◌, ◌+ℤ◌, ◌*ℤ◌}
use Rattle.rules.specs.Notation.{sum_to, at}
use Rattle.run_sums.proofs.dot_column_64.Given as goal

abbrev pub invariant-loop-i : goal.invariant-loop-i
invariant-loop-i l = l.sum ≡ l.fn.first +ℤ sum_to l.i (λ i. at l.x i *ℤ at l.a (l.from + l.stride * i))
