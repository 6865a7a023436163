use Rattle.std.proofs.Common.{◌≡◌, ℕ, ◌+◌, ◌<◌, List, ℤ, pos, ◌+ℤ◌, ◌*ℤ◌, ◌≤ℤ◌, set, T, not, false, sym, ap, subst, ◌∙◌}
use Rattle.std.proofs.Common.{le_refl, rules, arith, SFits, to_z, of_z, to_z-of_z}
use Rattle.std.specs.Int.{w32, w64}
use Rattle.std.specs.Int.{int_max}
use Rattle.std.specs.Int.Signed.{lt_z, lt_z_no, le_z_yes}
use Rattle.proof_integer.specs.Order.{≤ℤ-trans, max-left}
use Rattle.proof_integer.specs.Range.{bnd-between, bnd-sfits, widened_is, small_is}
use Rattle.proof_integer.specs.Vector.{at-tabulate}
use Rattle.rules.specs.Notation.{maxℤ, at}
use Rattle.rules.specs.Problem.{Problem}
use Rattle.rules.specs.Step.{moved, diverged}
use Rattle.proof_laws.specs.Below.{any-start, any-more, any_found}
use Rattle.run_arithmetic.proofs.Maximum.{max-turned}
use Rattle.run_moves.specs.Moves.{limits_of, MoveFits, too_large, places-all, places-found}
use Rattle.run_totals.specs.Changed.{changed-start, changed-next, changed-end}
use Rattle.run_moves.proofs.move_multipliers.Invariants.{Turn}
use Rattle.run_moves.proofs.move_multipliers.Goals as goal

module _ (P : Problem) (old : List ℤ) (g : ℕ → ℤ) where
  test_at : (i : ℕ) → i < P.limits → lt_z (pos 1073741824) (moved P (at old) g i) ≡ too_large P (at old) g i
  test_at i l = ap (lt_z (pos 1073741824)) (sym (at-tabulate P.limits (moved P (at old) g) i l))

  -- one that is not too large fits 32 bits
  move-fits : (i : ℕ) → i < P.limits → too_large P (at old) g i ≡ false → SFits w32 (moved P (at old) g i)
  unfolding moved
  move-fits i l small =
      let top : moved P (at old) g i ≤ℤ pos 1073741824 =
      lt_z_no (subst (λ b. T (not b)) (sym (test_at i l ∙ small)) tt) in
      bnd-sfits {a = 1073741824} tt (bnd-between (≤ℤ-trans (le_z_yes tt) (max-left (pos 0) _)) top)

-- in a turn, with both elements read
module _ (P : Problem) (old : List ℤ) (g : ℕ → ℤ) (now : List ℤ) (i : ℕ)
    (fits : MoveFits P (at old) g) (turn : Turn P old g now i) (l : i < P.limits)
    (now-fits : SFits w32 (at now i)) (g-fits : SFits w32 (g i)) {m r : ℤ}
    (m-is : m ≡ to_z w32 (of_z w32 (at now i))) (r-is : r ≡ to_z w32 (of_z w32 (g i))) where
  -- the sum that the code forms
  abbrev sum : ℤ
  sum = to_z w64 (of_z w64 m) +ℤ to_z w64 (of_z w64 (to_z w64 P.numerator *ℤ to_z w64 (of_z w64 r)))

  -- the multiplier is as at entry
  sum-is : sum ≡ at old i +ℤ pos P.numerator *ℤ g i
  sum-is =
      let change = fits.scaled i l in
      let residual-is = widened_is w64 tt g-fits in
      let numerator-is = small_is w64 {N = 1024} tt fits.numerator in
      let here = turn.done.past i (le_refl i) in
      simp (m-is, r-is, residual-is, numerator-is, to_z-of_z change)
      (ap (λ z. z +ℤ pos P.numerator *ℤ g i) (widened_is w64 tt now-fits ∙ here))

  sum-fits : SFits w64 sum
  sum-fits = rw sum-is (fits.uncut i l)

  -- with the moved multiplier
  module _ {e : ℤ} (e-fits : SFits w64 e) (e-is : e ≡ int_max (to_z w64 (of_z w64 sum)) (pos 0)) where
    move-is : to_z w64 (of_z w64 e) ≡ moved P (at old) g i
    unfolding moved
    move-is = to_z-of_z e-fits ∙ e-is ∙ max-turned _ _ ∙ ap (maxℤ (pos 0)) (to_z-of_z sum-fits ∙ sum-is)

    test-is : lt_z (pos 1073741824) (to_z w64 (of_z w64 e)) ≡ too_large P (at old) g i
    test-is = ap (lt_z (pos 1073741824)) move-is ∙ test_at P old g i l

    module _ (small : lt_z (pos 1073741824) (to_z w64 (of_z w64 e)) ≡ false) where
      small-here : too_large P (at old) g i ≡ false
      small-here = sym test-is ∙ small

      cast-fits : SFits w32 (to_z w64 (of_z w64 e))
      cast-fits = rw move-is (move-fits P old g i l small-here)

      turn-next : Turn P old g (set now i (to_z w32 (of_z w32 (to_z w64 (of_z w64 e))))) (i + 1)
      turn-next = record {
        small = any-more _ turn.small small-here;
        done = changed-next turn.done (to_z-of_z cast-fits ∙ move-is);
      }

pub loop-i-init : goal.loop-i-init
loop-i-init c = record { small = any-start _; done = changed-start }

pub overflow_add-uncut : goal.overflow_add-uncut
overflow_add-uncut c =
    let now-fits : SFits w32 (at c.loop-i.multipliers c.loop-i.i) = search rules in
    let g-fits : SFits w32 (at c.args.residuals.now c.loop-i.i) = search rules in
    sum-fits _ _ _ _ _ c.requires c.loop-i.invariant c.loop-i-test.true now-fits g-fits c.from.ensures
    c.from-in-loop-i.ensures

pub returns-then-moved-gt1073741824 : goal.returns-then-moved-gt1073741824
unfolding diverged
returns-then-moved-gt1073741824 c =
    let P : Problem = limits_of c.args.f.now in
    let M = c.args.multipliers.now in
    let g = at c.args.residuals.now in
    let inv = c.loop-i.invariant in
    let here = c.loop-i-test.true in
    let now-fits : SFits w32 (at c.loop-i.multipliers c.loop-i.i) = search rules in
    let g-fits : SFits w32 (at c.args.residuals.now c.loop-i.i) = search rules in
    let e-fits : SFits w64 c.max-moved.result = search rules in
    let same =
    test-is _ _ _ _ _ c.requires inv here now-fits g-fits c.from.ensures c.from-in-loop-i.ensures e-fits
    c.max-moved.ensures.value in
    let large = sym same ∙ c.if-moved-gt1073741824.true in
    record {
      test = sym (any_found (too_large P (at M) g) P.limits here large);
      places = changed-end (sym (places-found (too_large P (at M) g) P.limits here inv.small large)) inv.done;
    }

pub overflow_cast-multipliers : goal.overflow_cast-multipliers
overflow_cast-multipliers c =
    let now-fits : SFits w32 (at c.loop-i.multipliers c.loop-i.i) = search rules in
    let g-fits : SFits w32 (at c.args.residuals.now c.loop-i.i) = search rules in
    let e-fits : SFits w64 c.max-moved.result = search rules in
    cast-fits _ _ _ _ _ c.requires c.loop-i.invariant c.loop-i-test.true now-fits g-fits c.from.ensures
    c.from-in-loop-i.ensures e-fits c.max-moved.ensures.value c.if-moved-gt1073741824.false

pub loop-i-preserved : goal.loop-i-preserved
loop-i-preserved c =
    let now-fits : SFits w32 (at c.loop-i.multipliers c.loop-i.i) = search rules in
    let g-fits : SFits w32 (at c.args.residuals.now c.loop-i.i) = search rules in
    let e-fits : SFits w64 c.max-moved.result = search rules in
    turn-next _ _ _ _ _ c.requires c.loop-i.invariant c.loop-i-test.true now-fits g-fits c.from.ensures
    c.from-in-loop-i.ensures e-fits c.max-moved.ensures.value c.if-moved-gt1073741824.false

pub returns : goal.returns
unfolding diverged
returns c =
    let l = c.loop-i in
    let m = c.args.f.now.limits in
    let all : l.i ≡ m = omega arith in
    let none = rw all at l.invariant.small in
    record { test = sym none; places = changed-end (all ∙ sym (places-all _ m none)) l.invariant.done }
