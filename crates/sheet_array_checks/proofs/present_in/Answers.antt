-- A turn: the figure counts, or it is 0.
use Rattle.std.proofs.Common.{◌≡◌, rules, refl, sym, ap, ◌∙◌, Bool, true, false, not, true≢false, List, ℕ, suc, ◌+◌, ℤ}
use Rattle.std.proofs.Common.{pos, length, add-one, arith, nat_eq, eqb-true, w32, to_z, of_z, to_z-of_z}
use mir.Val.{SFits, bool_byte}
use Rattle.rules.specs.Notation.{at}
use Rattle.rules.specs.Encoder.{picked}
use Rattle.sheet_arrays.specs.Runs.{entry, entry-none, entry-one}
use Rattle.sheet_arrays.specs.Counted.{counted, counted-more, counted-few, present-is}
use Rattle.sheet_array_checks.proofs.present_in.Goals.{After-from-count}
use Rattle.sheet_array_checks.proofs.present_in.Goals as goal

-- a figure that is not 0 adds 1
counted-next : (figures : List ℤ) (i : ℕ) {count one : ℕ} → count ≡ counted i (at figures)
    → one ≡ bool_byte (not (nat_eq (of_z w32 (at figures i)) 0)) → SFits w32 (at figures i)
    → count + one ≡ counted (i + 1) (at figures)
counted-next figures i before is fits = (λ t. before t + is t) ∙ by (nat_eq (of_z w32 (at figures i)) 0) refl
  where
    more : counted (suc i) (at figures) ≡ counted i (at figures) + length (entry 0 (at figures i))
    more = counted-more 0 i (at figures)

    by : (b : Bool) → nat_eq (of_z w32 (at figures i)) 0 ≡ b
        → counted i (at figures) + bool_byte (not b) ≡ counted (i + 1) (at figures)
    by true z =
        let zero : at figures i ≡ pos 0 = sym (to_z-of_z fits) ∙ ap (to_z w32) (eqb-true _ _ z) in
        rw (add-one i) (omega (arith, more, ap length (entry-none 0 zero)))
    by false z =
        let there : at figures i ≡ pos 0 → ⊥ = λ e. true≢false (sym (ap (λ v. nat_eq (of_z w32 v) 0) e) ∙ z) in
        rw (add-one i) (omega (arith, more, ap length (entry-one 0 (at figures i) there)))

pub loop-figure-init : goal.loop-figure-init
unfolding counted picked
loop-figure-init c = refl

-- a turn adds 1 or 0
turn : (c : After-from-count) → c.loop-figure.count + c.from-count.result
    ≡ counted (c.loop-figure.figure-index + 1) (at c.args.figures.now)
turn c =
    counted-next c.args.figures.now c.loop-figure.figure-index c.loop-figure.invariant c.from-count.ensures
    (search rules)

pub overflow_add-count : goal.overflow_add-count
overflow_add-count c =
    record { fits = omega (arith, turn c, counted-few (c.loop-figure.figure-index + 1) (at c.args.figures.now)) }

pub loop-figure-preserved : goal.loop-figure-preserved
loop-figure-preserved c = turn c

pub returns : goal.returns
returns c =
    let all : length c.args.figures.now ≡ c.loop-figure.figure-index = omega arith in
    c.loop-figure.invariant ∙ sym (present-is c.args.figures.now all)
