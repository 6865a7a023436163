-- A number from 10^r on and below 10^(r + 1) has r + 1 digits; 0 has one.
use Rattle.std.proofs.Common.{◌≡◌, ◌<◌, ◌^◌, ◌+◌, pow-suc, add-one, arith}
use Rattle.rules.specs.Listing.{text, decimal}
use Rattle.out_numbers.specs.DecimalLength.{length-decimal-below}
use Rattle.out_numbers.proofs.Digits.{more-decimal}
use Rattle.out_numbers.proofs.places.Goals as goal

pub returns-in-Some : goal.returns-in-Some
returns-in-Some c =
    let last = c.in-Some.last in
    let below : c.args.v < 10 ^ (last + 1) =
    rw (add-one, pow-suc) (omega (arith, c.in-Some.ensures.next_power_gt)) in
    let most = length-decimal-below (last + 1) c.args.v (omega arith) below in
    let least = more-decimal last c.args.v (omega (arith, c.in-Some.ensures.power_le)) in
    omega (arith, most, least)

pub returns-in-None : goal.returns-in-None
unfolding decimal text
returns-in-None c = let zero : c.args.v ≡ 0 = omega (arith, c.in-None.ensures.none) in rw zero
