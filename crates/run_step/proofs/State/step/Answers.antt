-- The look gives what step t works out, and what comes back is what the step hands back.
use Rattle.std.proofs.Common.{◌≡◌, ℕ, suc, List, ℤ, ◌+ℤ◌, Bool, false, length, sym, ap, ◌∙◌, rules, SFits, to_z, of_z}
use Rattle.std.proofs.Common.{to_z-of_z, refl, Ok, Err, ◌≤◌, ◌<◌, pos, true, ltb, ltb-true, ltb-false}
use Rattle.std.proofs.Common.{le_trans, le_of_eq, arith}
use Rattle.std.proofs.Math.ListN.{get_or-eq_default}
use Rattle.std.proofs.lemmas.List.{map-id}
use mathlib.Core.Path.{transport}
use Rattle.std.specs.Int.{Width, w32, w64, int_max}
use Rattle.rules.specs.Notation.{maxℤ, tabulate, at}
use Rattle.rules.specs.Problem.{Problem}
use Rattle.rules.specs.Step.{moved, next, diverged}
use Rattle.rules.specs.Run.{state_after, look_after}
use Rattle.rules.specs.Refusals.{number_of, numbered}
use Rattle.proof_laws.specs.Lengths.{sums-length, totals-length, amounts-length, residuals-length}
use Rattle.proof_magnitudes.specs.Accepted.{Accepted}
use Rattle.proof_magnitudes.specs.Steps.{amounts, residuals, low-handed-on}
use Rattle.sheet_figures.specs.declared.Figures.{Figures}
use Rattle.sheet_figures.specs.Padded.{padded, length-padded}
use Rattle.sheet_figures.specs.Figures.{problem_of}
use Rattle.run_arithmetic.proofs.Maximum.{max-is}
use Rattle.run_look.specs.Given.{LookIn}
use Rattle.run_moves.specs.Moves.{limits_of, MoveFits, Moved, places-all}
use Rattle.run_totals.specs.Totals.{TotalsFit}
use Rattle.run_totals.specs.Changed.{Changed, changed-end}
use Rattle.run_step.specs.declared.State.{State}
use Rattle.run_step.specs.States.{state_in}
use Rattle.run_step.specs.Reached.{LookReady}
use Rattle.run_step.specs.Looked.{Looked}
use Rattle.run_step.specs.Reads.{sums-read, totals-read}
use Rattle.run_step.specs.Reads.{multipliers-changed, sums-changed, totals-changed}
use Rattle.run_step.specs.Fitting.{move-fits, sums-fit, totals-fit}
use Rattle.run_step.specs.Looks.{large, multipliers-enter, amounts-read, residuals-read, low-of-run}
use Rattle.run_step.specs.Stops.{refused-9, refused-10, not-refused, hands-stop, hands-state}
use Rattle.run_step.proofs.State.step.Goals as goal

-- ---- where one more fits each of n totals, it fits at every place: past them both lists read 0
module _ {w : Width} {n : ℕ} (old more : List ℤ) (old-long : length old ≡ n) (more-long : length more ≡ n)
    (one : (j : ℕ) → j < n → SFits w (at old j +ℤ at more j)) (none : SFits w (pos 0 +ℤ pos 0)) where
  every-place : (j : ℕ) → SFits w (at old j +ℤ at more j)
  every-place j = by (ltb j n) refl
    where
      by : (b : Bool) → ltb j n ≡ b → SFits w (at old j +ℤ at more j)
      by true h = one j (ltb-true j n h)
      by false h =
          let past : n ≤ j = ltb-false j n h in
          rw (
            get_or-eq_default old (pos 0) (le_trans (le_of_eq old-long) past),
            get_or-eq_default more (pos 0) (le_trans (le_of_eq more-long) past),
          )
          none

-- ---- what enters the step
module _ {f : Figures} {a : List ℤ} {greatest : ℤ} {t : ℕ} {w : State} (ready : LookReady f a greatest t w) where
  abbrev P : Problem
  P = problem_of f a

  accepted : Accepted P f.steps
  accepted = ready.reached.accepted

  sums-are : at w.sums ≡ at (state_after P t).sums
  unfolding state_in
  sums-are = sums-read accepted t (λ k. (ready.reached.state k).sums)

  sums-long : length w.sums ≡ 32
  unfolding state_in
  sums-long = ap length (λ k. (ready.reached.state k).sums) ∙ length-padded 32 _

  totals-are : at w.totals ≡ at (state_after P t).residual_totals
  unfolding state_in
  totals-are = totals-read accepted t (λ k. (ready.reached.state k).totals)

  totals-long : length w.totals ≡ 16
  unfolding state_in
  totals-long = ap length (λ k. (ready.reached.state k).totals) ∙ length-padded 16 _

  -- ---- after the look: the amounts x, the residuals g and the dual value
  module _ {x g : List ℤ} {value : ℤ} (look : LookIn (look_after P t) x g value) where
    x-reads : at x ≡ amounts P t
    x-reads = amounts-read ready look

    x-long : length x ≡ 32
    x-long = ap length look.amounts-are ∙ length-padded 32 _

    g-reads : at g ≡ residuals P t
    g-reads = residuals-read ready look

    g-long : length g ≡ 16
    g-long = ap length look.residuals-are ∙ length-padded 16 _

    move-asks : MoveFits (limits_of f) (at w.multipliers) (at g)
    move-asks =
        transport
        (λ k. MoveFits (limits_of f) (sym (multipliers-enter ready) k) (sym g-reads k))
        (move-fits f a accepted t (large ready))

    -- whatever is counted, as far as there are places
    sums-ask : {n : ℕ} → n ≤ 32 → TotalsFit w32 (length w.sums) (length x) n (at w.sums) (at x)
    sums-ask {n} few =
        let fit = (sums-fit f a accepted t (large ready)).one in
        let none : SFits w32 (pos 0 +ℤ pos 0) = search rules in
        transport
        (λ k. TotalsFit w32 (sym sums-long k) (sym x-long k) n (sym sums-are k) (sym x-reads k))
        (record {
          few = few;
          enough = few;
          one = λ j l. every-place _ _ (sums-length P t) (amounts-length P t) fit none j;
        })

    totals-ask : {m : ℕ} → m ≤ 16 → TotalsFit w64 (length w.totals) (length g) m (at w.totals) (at g)
    totals-ask {m} few =
        let fit = (totals-fit f a accepted t (large ready)).one in
        let none : SFits w64 (pos 0 +ℤ pos 0) = search rules in
        transport
        (λ k. TotalsFit w64 (sym totals-long k) (sym g-long k) m (sym totals-are k) (sym g-reads k))
        (record {
          few = few;
          enough = few;
          one = λ i l. every-place _ _ (totals-length P t) (residuals-length P t) fit none i;
        })

    -- ---- the move: the multipliers after the step, as the code moves them
    moves-are : tabulate P.limits (moved P (at w.multipliers) (at g)) ≡ (state_after P (suc t)).multipliers
    unfolding state_after next look_after
    moves-are = λ k. tabulate P.limits (moved P (multipliers-enter ready k) (g-reads k))

    module _ {m : List ℤ} {b : Bool} (move : Moved (limits_of f) (at g) w.multipliers m b) where
      -- the test is that of T4.8
      test-10 : b ≡ diverged P (state_after P (suc t)).multipliers
      unfolding diverged moved
      test-10 = move.test ∙ (λ k. diverged P (moves-are k))

      -- no multiplier diverged, so all are moved
      multipliers-are : b ≡ false → m ≡ padded 16 (state_after P (suc t)).multipliers
      unfolding state_in diverged moved
      multipliers-are converges =
          let none = sym move.test ∙ converges in
          multipliers-changed accepted t (λ k. (ready.reached.state k).multipliers)
          (changed-end (places-all _ f.limits none) move.places)
          ∙ (λ k. padded 16 (moves-are k))

    -- ---- the state after the step
    sums-after : {s : List ℤ} → Changed f.materials (λ j. at w.sums j +ℤ at x j) w.sums s
        → s ≡ padded 32 (state_after P (suc t)).sums
    unfolding state_in state_after next look_after
    sums-after changed =
        sums-changed accepted t (λ k. (ready.reached.state k).sums) changed
        ∙ (λ k. padded 32 (tabulate P.materials (λ j. sums-are k j +ℤ x-reads k j)))

    totals-after : {s : List ℤ} → Changed f.limits (λ i. at w.totals i +ℤ at g i) w.totals s
        → s ≡ padded 16 (state_after P (suc t)).residual_totals
    unfolding state_in state_after next look_after
    totals-after changed =
        totals-changed accepted t (λ k. (ready.reached.state k).totals) changed
        ∙ (λ k. padded 16 (tabulate P.limits (λ i. totals-are k i +ℤ g-reads k i)))

    low-is : {r : ℤ} → SFits w64 w.low → SFits w64 value → SFits w64 r
        → r ≡ int_max (to_z w64 (of_z w64 w.low)) (to_z w64 (of_z w64 value))
        → to_z w64 (of_z w64 r) ≡ (state_after P (suc t)).lower_bound
    low-is low_fits v-fits fits e =
        to_z-of_z fits
        ∙ e
        ∙ max-is _ _
        ∙ (λ k. maxℤ (to_z-of_z low_fits k) (to_z-of_z v-fits k))
        ∙ low-of-run ready look
        ∙ low-handed-on P t

-- ---- the look, with two arrays of zeros
pub look-requires : goal.look-requires
look-requires c =
    record { ready = rw (to_z-of_z c.ranges.greatest) c.requires; no-amounts = refl; no-residuals = refl }

pub returns-in-Err : goal.returns-in-Err
unfolding numbered number_of
returns-in-Err c =
    let P : Problem = problem_of c.args.f.now c.args.coefficient.now in
    let back = c.in-Err.ensures.back in
    hands-stop P _ (c.stopped.ensures ∙ (λ k. record { stop = Err (back.is k); state = c.args.self }))
    (refused-9 P c.args.t back.test) c.requires.reached.state

-- the look of the run
look-in : {P : Problem} {t : ℕ} {x g : List ℤ} {value : ℤ} → Looked P t x g (Ok value)
    → LookIn (look_after P t) x g value
look-in looked = record {
  amounts-are = looked.amounts-are;
  residuals-are = looked.residuals-are;
  value-is = looked.back.is;
}

pub move_multipliers-requires : goal.move_multipliers-requires
move_multipliers-requires c = move-asks c.requires (look-in c.in-Ok.ensures)

pub returns-then-move_multipliers : goal.returns-then-move_multipliers
unfolding numbered number_of
returns-then-move_multipliers c =
    let P : Problem = problem_of c.args.f.now c.args.coefficient.now in
    let looked = c.in-Ok.ensures in
    hands-stop P _
    (c.stopped-then-move_multipliers.ensures ∙ (λ k. record { stop = Err (c.at.ensures k); state = c.args.self }))
    (refused-10 P c.args.t looked.back.test
    (sym (test-10 c.requires (look-in looked) c.move_multipliers.ensures) ∙ c.if-move_multipliers.true))
    c.requires.reached.state

pub add-requires : goal.add-requires
add-requires c =
    let few : c.args.f.now.materials ≤ 32 = c.requires.reached.accepted.materials-few in
    simp map-id (sums-ask c.requires (look-in c.in-Ok.ensures) (omega (arith, few)))

pub add-requires-2 : goal.add-requires-2
add-requires-2 c =
    let few : c.args.f.now.limits ≤ 16 = c.requires.reached.accepted.limits-few in
    simp map-id (totals-ask c.requires (look-in c.in-Ok.ensures) (omega (arith, few)))

pub returns : goal.returns
unfolding state_in
returns c =
    let P : Problem = problem_of c.args.f.now c.args.coefficient.now in
    let v-fits : SFits w64 c.in-Ok.value = search rules in
    let low_fits : SFits w64 c.args.self.low = search rules in
    let fits : SFits w64 c.max.result = search rules in
    let looked = c.in-Ok.ensures in
    let look = look-in looked in
    let converges = c.if-move_multipliers.false in
    let m-are = multipliers-are c.requires look c.move_multipliers.ensures converges in
    let s-are = sums-after c.requires look (simp map-id at c.add.ensures) in
    let t-are = totals-after c.requires look (simp map-id at c.add-2.ensures) in
    let l-is = low-is c.requires look low_fits v-fits fits c.max.ensures.value in
    hands-state P refl
    (not-refused P c.args.t looked.back.test (sym (test-10 c.requires look c.move_multipliers.ensures) ∙ converges))
    (λ k. record { multipliers = m-are k; sums = s-are k; totals = t-are k; low = l-is k })
