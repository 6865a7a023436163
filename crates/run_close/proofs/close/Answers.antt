-- The look is that of the run, and what comes back is the state with low, or refusal 9 with the state as it was.
use Rattle.std.proofs.Common.{◌≡◌, ℕ, List, ℤ, Err, refl, sym, ◌∙◌, rules, SFits, to_z, of_z, to_z-of_z}
use Rattle.std.proofs.Math.Path.{transport}
use Rattle.std.specs.Int.{w64, int_max}
use Rattle.rules.specs.Notation.{maxℤ}
use Rattle.rules.specs.Problem.{Problem}
use Rattle.rules.specs.Run.{look_after, low_after}
use Rattle.rules.specs.Refusals.{numbered, number_of}
use Rattle.sheet_figures.specs.declared.Figures.{Figures}
use Rattle.sheet_figures.specs.Figures.{problem_of}
use Rattle.run_arithmetic.proofs.Maximum.{max-is}
use Rattle.run_look.specs.Given.{LookIn}
use Rattle.run_step.specs.declared.State.{State}
use Rattle.run_step.specs.States.{state_in, closed_in}
use Rattle.run_step.specs.Reached.{LookReady}
use Rattle.run_step.specs.Stops.{look-refused, look-passed, hands-stop, hands-state}
use Rattle.run_step.specs.Looks.{low-of-run}
use Rattle.run_close.proofs.close.Goals as goal

module _ {f : Figures} {a : List ℤ} {greatest : ℤ} {count : ℕ} {w : State} (ready : LookReady f a greatest count w)
    {x g : List ℤ} {value : ℤ} (look : LookIn (look_after (problem_of f a) count) x g value)
    (v-fits : SFits w64 value) where
  low-is : {r : ℤ} → SFits w64 w.low → SFits w64 r
      → r ≡ int_max (to_z w64 (of_z w64 w.low)) (to_z w64 (of_z w64 value))
      → to_z w64 (of_z w64 r) ≡ low_after (problem_of f a) count
  low-is low_fits fits e =
      to_z-of_z fits
      ∙ e
      ∙ max-is _ _
      ∙ (λ k. maxℤ (to_z-of_z low_fits k) (to_z-of_z v-fits k))
      ∙ low-of-run ready look

pub look-requires : goal.look-requires
look-requires c =
    let a = c.args in
    let greatest = sym (to_z-of_z c.ranges.greatest) in
    record {
      ready = transport (λ k. LookReady a.f.now a.coefficient.now (greatest k) a.count a.w) c.requires;
      no-amounts = refl;
      no-residuals = refl;
    }

pub returns-in-Err : goal.returns-in-Err
unfolding numbered number_of
returns-in-Err c =
    let P : Problem = problem_of c.args.f.now c.args.coefficient.now in
    let back = c.in-Err.ensures.back in
    hands-stop P _ (λ k. record { stop = Err (back.is k); state = c.args.w })
    (look-refused P c.args.count back.test) c.requires.reached.state

pub returns : goal.returns
unfolding state_in closed_in
returns c =
    let P : Problem = problem_of c.args.f.now c.args.coefficient.now in
    let looked = c.in-Ok.ensures in
    let look : LookIn (look_after P c.args.count) _ _ c.in-Ok.value = record {
      amounts-are = looked.amounts-are;
      residuals-are = looked.residuals-are;
      value-is = looked.back.is;
    } in
    let v-fits : SFits w64 c.in-Ok.value = search rules in
    let low_fits : SFits w64 c.args.w.low = search rules in
    let fits : SFits w64 c.max.result = search rules in
    let w = c.requires.reached.state in
    let l-is = low-is c.requires look v-fits low_fits fits c.max.ensures.value in
    hands-state P refl (look-passed P c.args.count looked.back.test) (λ k. record {
      multipliers = (w k).multipliers;
      sums = (w k).sums;
      totals = (w k).totals;
      low = l-is k;
    })
