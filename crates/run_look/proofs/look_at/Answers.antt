-- Each call gives what the look at these multipliers works out.
use Rattle.std.proofs.Common.{◌≡◌, ℕ, List, [], ℤ, pos, ◌+ℤ◌, ◌*ℤ◌, sym, ap, subst, ◌∙◌, rules, SFits, to_z, of_z}
use Rattle.std.proofs.Common.{to_z-of_z}
use Rattle.std.specs.Int.{w64}
use Rattle.proof_integer.specs.Sum.{sum_to-cong}
use Rattle.proof_integer.specs.Vector.{length-tabulate, at-tabulate}
use Rattle.rules.specs.Notation.{sum_to, tabulate, at}
use Rattle.rules.specs.Problem.{Problem, cost_of}
use Rattle.rules.specs.Step.{Look, amount, residual, dual_value, look_at}
use Rattle.std.proofs.lemmas.List.{map-id}
use Rattle.sheet_figures.specs.declared.Figures.{Figures}
use Rattle.sheet_figures.specs.Figures.{problem_of}
use Rattle.sheet_figures.specs.Padded.{padded, at-padded}
use Rattle.run_sums.specs.SumsFit.{SumFits}
use Rattle.run_costs.specs.Costs.{CostFits}
use Rattle.run_look.specs.Given.{LookIn}
use Rattle.run_look.specs.LookFits.{ResidualsFit, LookFits}
use Rattle.run_look.proofs.look_at.Goals as goal

-- from the residuals that the look has worked out
value_of : (P : Problem) (M : ℕ → ℤ)
    → pos P.scale *ℤ cost_of P (at (look_at P M).amounts)
    +ℤ sum_to P.limits (λ i. M i *ℤ at (look_at P M).residuals i)
    ≡ (look_at P M).dual_value
unfolding look_at dual_value
value_of P M =
    let x = at (look_at P M).amounts in
    ap (λ z. pos P.scale *ℤ cost_of P x +ℤ z)
    (sum_to-cong P.limits _ _ (λ i l. ap (λ g. M i *ℤ g) (at-tabulate P.limits (residual P x) i l)))

module _ (f : Figures) (a : List ℤ) (M : List ℤ) where
  abbrev P : Problem
  P = problem_of f a

  -- what the look is to be
  abbrev q : Look
  q = look_at P (at M)

  module _ {zeros-x zeros-g : List ℤ} (fits : LookFits P (at M) zeros-x zeros-g) {x : List ℤ}
      (chosen : x ≡ padded 32 (tabulate P.materials (amount P (at M)))) where
    -- ---- the amounts
    x-is : x ≡ padded 32 q.amounts
    unfolding look_at
    x-is = chosen

    x-reads : at x ≡ at q.amounts
    unfolding look_at
    x-reads = (λ k. at (x-is k)) ∙ at-padded 32 q.amounts (rw length-tabulate fits.amounts-fit.narrow)

    -- ---- the residuals
    residuals-fit : ResidualsFit P (at x) zeros-g
    residuals-fit = subst (λ (y : ℕ → ℤ). ResidualsFit P y zeros-g) (sym x-reads) fits.residuals-fit

    -- ---- the dual value: the coefficients play no part in the cost
    cost-fits : CostFits (problem_of f []) (at x)
    unfolding cost_of
    cost-fits =
        let c = subst (CostFits P) (sym x-reads) fits.cost in
        record { narrow = c.narrow; scale = c.scale; sum = c.sum; scaled = c.scaled }

    module _ {g : List ℤ} (taken : g ≡ padded 16 (tabulate P.limits (residual P (at x)))) where
      g-is : g ≡ padded 16 q.residuals
      unfolding look_at
      g-is = taken ∙ (λ k. padded 16 (tabulate P.limits (residual P (x-reads k))))

      g-reads : at g ≡ at q.residuals
      unfolding look_at
      g-reads = (λ k. at (g-is k)) ∙ at-padded 16 q.residuals (rw length-tabulate fits.residuals-fit.few)

      module _ {v : ℤ} (v-fits : SFits w64 v) (v-is : v ≡ pos P.scale *ℤ cost_of (problem_of f []) (at x)) where
        cost-is : to_z w64 (of_z w64 v) ≡ pos P.scale *ℤ cost_of P (at q.amounts)
        unfolding cost_of
        cost-is = to_z-of_z v-fits ∙ v-is ∙ (λ k. pos P.scale *ℤ cost_of P (x-reads k))

        value-fits : SumFits w64 (to_z w64 (of_z w64 v)) (λ i. at M i *ℤ at g i) P.limits
        value-fits =
            rw cost-is
            (subst
            (λ (h : ℕ → ℤ). SumFits w64 (pos P.scale *ℤ cost_of P (at q.amounts)) (λ i. at M i *ℤ h i) P.limits)
            (sym g-reads) fits.value)

        look-in : {r : ℤ} → SFits w64 r
            → r ≡ to_z w64 (of_z w64 v) +ℤ sum_to P.limits (λ i. at M i *ℤ at g i)
            → LookIn q x g (to_z w64 (of_z w64 r))
        look-in {r} r-fits e = record {
          amounts-are = x-is;
          residuals-are = g-is;
          value-is =
              to_z-of_z r-fits
              ∙ e
              ∙ (λ k. cost-is k +ℤ sum_to P.limits (λ i. at M i *ℤ g-reads k i))
              ∙ value_of P (at M);
        }

pub take_residuals-requires : goal.take_residuals-requires
take_residuals-requires c =
    residuals-fit c.args.f.now c.args.coefficient.now c.args.multipliers.now c.requires c.choose_amounts.ensures

pub scaled_cost-requires : goal.scaled_cost-requires
scaled_cost-requires c =
    cost-fits c.args.f.now c.args.coefficient.now c.args.multipliers.now c.requires c.choose_amounts.ensures

pub dot-requires : goal.dot-requires
dot-requires c =
    let fits : SFits w64 c.scaled_cost.result = search rules in
    simp map-id
    (record {
      in_x = search rules;
      in_y = search rules;
      sum =
          value-fits c.args.f.now c.args.coefficient.now c.args.multipliers.now c.requires c.choose_amounts.ensures
          c.take_residuals.ensures fits c.scaled_cost.ensures;
    })

pub returns : goal.returns
returns c =
    let fits : SFits w64 c.scaled_cost.result = search rules in
    let sum-fits : SFits w64 c.dot.result = search rules in
    look-in c.args.f.now c.args.coefficient.now c.args.multipliers.now c.requires c.choose_amounts.ensures
    c.take_residuals.ensures fits c.scaled_cost.ensures sum-fits (simp map-id at c.dot.ensures)
