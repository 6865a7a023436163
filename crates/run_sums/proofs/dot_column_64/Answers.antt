-- The products and sums fit by what the function asks of all of them.
use Rattle.std.proofs.Common.{◌+◌, ◌*◌, rules, sym, ◌∙◌, SFits, to_z-of_z}
use Rattle.std.specs.Int.{w16, w32, w64}
use Rattle.proof_integer.specs.Range.{widened_is}
use Rattle.rules.specs.Notation.{at}
use Rattle.run_sums.proofs.Turns.{turn-start, sum_fits, turn-next}
use Rattle.run_sums.proofs.dot_column_64.Goals as goal

pub loop-i-init : goal.loop-i-init
loop-i-init c = turn-start _ _

pub plus_product-sum-requires : goal.plus_product-sum-requires
plus_product-sum-requires c =
    let i = c.loop-i.i in
    let fits = rw (sym (to_z-of_z c.ranges.first)) at c.requires.sum in
    let x-fits : SFits w32 (at c.args.x.now i) = search rules in
    let a-fits : SFits w16 (at c.args.a.now (c.args.from + c.args.stride * i)) = search rules in
    rw (to_z-of_z x-fits, c.from.ensures, widened_is w32 tt a-fits)
    (record {
      product = fits.one i c.loop-i-test.true;
      total = sum_fits fits c.loop-i.invariant c.loop-i-test.true;
    })

pub loop-i-preserved : goal.loop-i-preserved
loop-i-preserved c =
    let i = c.loop-i.i in
    let fits = rw (sym (to_z-of_z c.ranges.first)) at c.requires.sum in
    let x-fits : SFits w32 (at c.args.x.now i) = search rules in
    let a-fits : SFits w16 (at c.args.a.now (c.args.from + c.args.stride * i)) = search rules in
    let result-fits : SFits w64 c.plus_product-sum.result = search rules in
    turn-next fits c.loop-i.invariant c.loop-i-test.true
    (to_z-of_z result-fits
    ∙ (rw (to_z-of_z x-fits, c.from.ensures, widened_is w32 tt a-fits) at c.plus_product-sum.ensures))
