-- The products and sums fit by what the function asks of all of them.
use Rattle.std.proofs.Common.{arith}
use Rattle.run_arithmetic.proofs.Places.{number-at}
use Rattle.run_sums.proofs.Turns.{turn-start, sum_fits, turn-next}
use Rattle.run_sums.proofs.dot.Goals as goal

pub loop-i-init : goal.loop-i-init
loop-i-init g c = turn-start _ _

pub plus_product-sum-requires : goal.plus_product-sum-requires
plus_product-sum-requires g c =
    let q = c.requires in
    let x-is = number-at g.T.Total.part_value c.args.x.now (omega arith) c.index-x-i.is in
    let y-is = number-at g.T.Total.part_value c.args.y.now (omega arith) c.index-y-i.is in
    rw (x-is, y-is)
    (record {
      product = q.sum.one c.loop-i.i c.loop-i-test.true;
      total = sum_fits q.sum c.loop-i.invariant c.loop-i-test.true;
    })

pub loop-i-preserved : goal.loop-i-preserved
loop-i-preserved g c =
    let q = c.requires in
    let x-is = number-at g.T.Total.part_value c.args.x.now (omega arith) c.index-x-i.is in
    let y-is = number-at g.T.Total.part_value c.args.y.now (omega arith) c.index-y-i.is in
    turn-next q.sum c.loop-i.invariant c.loop-i-test.true (rw (x-is, y-is) at c.plus_product-sum.ensures)
