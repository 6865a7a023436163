-- The digits that are left after a turn, and the text after the last one.
use Rattle.std.proofs.Common.{◌≡◌, suc, ◌+◌, ◌-◌, ◌/◌, [], pos, refl, sym, arith}
use Rattle.rules.specs.Listing.{decimal}
use Rattle.out_numbers.specs.DecimalLength.{length-decimal-pos}
use Rattle.out_numbers.proofs.Digits.{ending_digits, last-decimal, length_last}
use Rattle.out_numbers.proofs.LastFirst.{StillToStore, last_stored, none_left, puts-past}
use Rattle.out_numbers.proofs.put_number.Goals as goal

pub returns-then-text-at : goal.returns-then-text-at
returns-then-text-at c =
    record { same_bytes = refl; puts = record { is = sym (puts-past _ _ _ c.if-text-at.true) } }

pub overflow_add-end : goal.overflow_add-end
overflow_add-end c =
    let few = length-decimal-pos c.args.v (omega arith) in
    record { fits = omega (arith, c.places.ensures, few) }

pub loop-place-init : goal.loop-place-init
loop-place-init c =
    let at = c.args.text.now.end in
    let all : at + c.places.result - at ≡ c.places.result = omega arith in
    record {
      same_bytes = refl;
      from = omega arith;
      stored = record { is = rw (all, c.places.ensures, last-decimal); length-is = refl };
    }

pub loop-place-preserved : goal.loop-place-preserved
unfolding ending_digits
loop-place-preserved c =
    let at = c.args.text.now.end in
    let before = c.loop-place.invariant in
    let e : c.loop-place.place - at ≡ suc (c.loop-place.place - 1 - at) = omega arith in
    let shorter = length_last (c.loop-place.place - 1 - at) (c.loop-place.left / 10) in
    let rest = rw e at before.stored in
    record {
      same_bytes = before.same_bytes;
      from = omega arith;
      stored = last_stored _ rest (omega arith) (omega (arith, shorter)) c.set_byte.ensures;
    }

pub returns : goal.returns
unfolding ending_digits
returns c =
    let before = c.loop-place.invariant in
    let e : c.loop-place.place - c.args.text.now.end ≡ 0 = omega arith in
    let none : StillToStore (decimal (pos c.args.v)) _ _ [] _ = rw e at before.stored in
    let end = c.min-text.ensures in
    record {
      same_bytes = before.same_bytes;
      puts = none_left none (omega arith) (omega (arith, end, none.length-is, c.places.ensures));
    }
