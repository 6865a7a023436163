-- Each turn adds to the next place, which is as at entry.
use Rattle.std.proofs.Common.{◌≡◌, ℕ, ◌<◌, ℤ, ◌+ℤ◌, List, map, length, get_or, arith, ap₂, ◌∙◌, le_refl}
use Rattle.std.proofs.lemmas.List.{length-map, map-set}
use Rattle.rules.specs.Notation.{at}
use Rattle.run_arithmetic.proofs.Places.{number-at}
use Rattle.run_totals.specs.Changed.{Changed, changed-start, changed-next}
use Rattle.run_totals.proofs.add.Goals as goal

-- what the turn adds up: the total is as at entry, and what is added is widened
module _ {A B : Type 0} (value : A → ℤ) (part : B → ℤ) (old now : List A) (more : List B) {i : ℕ}
    (turn : Changed i (λ i. at (map value old) i +ℤ at (map part more) i) (map value old) (map value now))
    (in-totals : i < length now) (in-more : i < length more) where
  summed : {total wide : A} {x : B} → total ≡ get_or now i total → x ≡ get_or more i x → value wide ≡ part x
      → value total +ℤ value wide ≡ at (map value old) i +ℤ at (map part more) i
  summed total-is more-is widened =
      ap₂ (λ x y. x +ℤ y)
      (number-at value now (rw length-map in-totals) total-is ∙ turn.past i (le_refl i))
      (widened ∙ number-at part more (rw length-map in-more) more-is)

pub loop-i-init : goal.loop-i-init
loop-i-init g c = changed-start

pub plus-requires : goal.plus-requires
plus-requires g c =
    let t = g.T.Total in
    let sum-is =
    summed t.value t.part_value c.args.totals.now c.loop-i.totals c.args.more.now c.loop-i.invariant
    (omega (arith, c.requires.few)) (omega (arith, c.requires.enough))
    c.index-totals-i.is c.index-more-i.is (g.met.T.Total.widens _ _ c.from.ensures) in
    rw sum-is (c.requires.one c.loop-i.i c.loop-i-test.true)

pub loop-i-preserved : goal.loop-i-preserved
loop-i-preserved g c =
    let t = g.T.Total in
    let sum-is =
    summed t.value t.part_value c.args.totals.now c.loop-i.totals c.args.more.now c.loop-i.invariant
    (omega (arith, c.requires.few)) (omega (arith, c.requires.enough))
    c.index-totals-i.is c.index-more-i.is (g.met.T.Total.widens _ _ c.from.ensures) in
    rw map-set (changed-next c.loop-i.invariant (c.plus.ensures ∙ sum-is))
