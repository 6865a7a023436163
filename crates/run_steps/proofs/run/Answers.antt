use Rattle.std.proofs.Common.{◌≡◌, ℕ, zero-le, refl, sym, subst, ◌∙◌, rules, arith, SFits, to_z-of_z}
use Rattle.std.specs.Int.{w64}
use Rattle.rules.specs.Problem.{Problem, cost_of}
use Rattle.rules.specs.Step.{greatest_cost, cheapest_cost}
use Rattle.rules.specs.Run.{starting_state, state_after}
use Rattle.rules.specs.Answers.{step_refusal}
use Rattle.proof_laws.specs.FirstPlace.{first-start}
use Rattle.sheet_figures.specs.Padded.{padded-zero}
use Rattle.sheet_figures.specs.Figures.{problem_of}
use Rattle.run_step.specs.Reached.{Reached}
use Rattle.run_costs.specs.OfRun.{greatest-fits, cheapest-fits}
use Rattle.run_step.specs.States.{state_in}
use Rattle.run_steps.proofs.OneStep.{hands_on, still-going, next-state, hands-closed}
use Rattle.run_steps.proofs.run.Goals as goal

-- ---- before the loop: the greatest cost, and the cheapest
pub greatest_value-greatest-requires : goal.greatest_value-greatest-requires
greatest_value-greatest-requires c = greatest-fits c.args.f.now c.args.coefficient.now c.requires.accepted

pub cheapest_value-low-requires : goal.cheapest_value-low-requires
cheapest_value-low-requires c = cheapest-fits c.args.f.now c.args.coefficient.now c.requires.accepted

-- the multipliers are the starts, every total is 0, and low is D times the cheapest cost
pub loop-t-init : goal.loop-t-init
unfolding step_refusal state_in state_after starting_state cheapest_cost cost_of
loop-t-init c =
    let f = c.args.f.now in
    let fits : SFits w64 c.cheapest_value-low.result = search rules in
    let low = to_z-of_z fits ∙ c.cheapest_value-low.ensures in (
      refl,
      record {
        accepted = c.requires.accepted;
        few = zero-le;
        going = first-start _;
        state = λ k. record {
          multipliers = c.requires.starts k;
          sums = sym (padded-zero 32 f.materials) k;
          totals = sym (padded-zero 16 f.limits) k;
          low = low k;
        };
      },
    )

pub step-r-requires : goal.step-r-requires
unfolding greatest_cost cost_of
step-r-requires c =
    let fits : SFits w64 c.greatest_value-greatest.result = search rules in
    record { reached = c.loop-t.invariant.1; greatest-is = to_z-of_z fits ∙ c.greatest_value-greatest.ensures }

-- ---- after a step
pub returns-in_default : goal.returns-in_default
returns-in_default c =
    let P : Problem = problem_of c.args.f.now c.args.coefficient.now in
    hands_on P _ c.loop-t.invariant.1.going c.step-r.ensures c.args.f.now.steps c.loop-t-test.true c.in_default.is

pub loop-t-preserved : goal.loop-t-preserved
loop-t-preserved c =
    let P : Problem = problem_of c.args.f.now c.args.coefficient.now in
    let reached = c.loop-t.invariant.1 in
    let going = c.in-Ok.is in (
      going,
      record {
        accepted = reached.accepted;
        few = omega arith;
        going = still-going P _ reached.going c.step-r.ensures going;
        state = next-state P _ reached.going c.step-r.ensures going;
      },
    )

-- ---- after the last step: all steps were taken
pub close-requires : goal.close-requires
unfolding greatest_cost cost_of
close-requires c =
    let f = c.args.f.now in
    let a = c.args.coefficient.now in
    let fits : SFits w64 c.greatest_value-greatest.result = search rules in
    let reached = c.loop-t.invariant.1 in
    let all : c.loop-t.t ≡ f.steps = omega (arith, reached.few) in
    record {
      reached = subst (λ (t : ℕ). Reached f a t c.loop-t.r.state) all reached;
      greatest-is = to_z-of_z fits ∙ c.greatest_value-greatest.ensures;
    }

pub returns : goal.returns
returns c =
    let f = c.args.f.now in
    let a = c.args.coefficient.now in
    let reached = c.loop-t.invariant.1 in
    let all : c.loop-t.t ≡ f.steps = omega (arith, reached.few) in
    let last = subst (λ (t : ℕ). Reached f a t c.loop-t.r.state) all reached in
    hands-closed (problem_of f a) f.steps last.going c.close.ensures
