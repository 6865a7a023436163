-- Only the figures of the n materials and the m limits count: problems that agree in them have the same run.
use Rattle.std.specs.Prelude.{◌≡◌, refl, ℤ, ◌+ℤ◌, ◌-ℤ◌, ◌*ℤ◌}
use Rattle.std.proofs.Math.Path.{ap}
use Rattle.std.proofs.Common.{◌∙◌}
use Rattle.std.proofs.Math.Bool.{cond}
use Prim.Native.Nat.{ℕ, zero, suc, ◌<◌}
use Rattle.std.proofs.Math.IntN.{pos}
use Rattle.std.specs.Int.Signed.{lt_z}
use Rattle.proof_integer.specs.Sum.{sum_to-cong}
use Rattle.proof_integer.specs.Vector.{tabulate-cong}
use Rattle.rules.specs.Notation.{any_below, maxℤ, sum_to, tabulate, at}
use Rattle.rules.specs.Problem.{Problem, cost_of, load_of}
use Rattle.rules.specs.Step.{State, reduced_cost, amount, residual, dual_value, look_at, greatest_cost}
use Rattle.rules.specs.Step.{cheapest_cost, infeasible, moved, next, diverged}
use Rattle.rules.specs.Run.{starting_state, state_after, look_after, closing_value, low_after, gap_of, plan_after}
use Rattle.rules.specs.Refusals.{refuse, ◌otherwise◌}
use Rattle.rules.specs.Answers.{look_refusal, refusal_at, step_refusal, run_refusal}
use Rattle.proof_laws.specs.FirstPlace.{first_cong}

-- the same sizes, and the same figures at every material and limit of Q
pub record Agree (P Q : Problem) : Type 0 where
  pub materials : P.materials ≡ Q.materials
  pub limits : P.limits ≡ Q.limits
  pub numerator : P.numerator ≡ Q.numerator
  pub scale : P.scale ≡ Q.scale
  pub cost : (j : ℕ) → j < Q.materials → P.cost j ≡ Q.cost j
  pub least : (j : ℕ) → j < Q.materials → P.least j ≡ Q.least j
  pub most : (j : ℕ) → j < Q.materials → P.most j ≡ Q.most j
  pub coefficient : (i j : ℕ) → i < Q.limits → j < Q.materials → P.coefficient i j ≡ Q.coefficient i j
  pub rhs : (i : ℕ) → i < Q.limits → P.rhs i ≡ Q.rhs i
  pub starting_multiplier : (i : ℕ) → i < Q.limits → P.starting_multiplier i ≡ Q.starting_multiplier i

module _ {P Q : Problem} (same : Agree P Q) where
  -- ---- sums and lists over the materials, and over the limits
  over-materials : (f g : ℕ → ℤ) → ((j : ℕ) → j < Q.materials → f j ≡ g j)
      → sum_to P.materials f ≡ sum_to Q.materials g
  over-materials f g h = (λ k. sum_to (same.materials k) f) ∙ sum_to-cong Q.materials f g h

  over-limits : (f g : ℕ → ℤ) → ((i : ℕ) → i < Q.limits → f i ≡ g i)
      → sum_to P.limits f ≡ sum_to Q.limits g
  over-limits f g h = (λ k. sum_to (same.limits k) f) ∙ sum_to-cong Q.limits f g h

  by-materials : (f g : ℕ → ℤ) → ((j : ℕ) → j < Q.materials → f j ≡ g j)
      → tabulate P.materials f ≡ tabulate Q.materials g
  by-materials f g h = (λ k. tabulate (same.materials k) f) ∙ tabulate-cong Q.materials f g h

  by-limits : (f g : ℕ → ℤ) → ((i : ℕ) → i < Q.limits → f i ≡ g i)
      → tabulate P.limits f ≡ tabulate Q.limits g
  by-limits f g h = (λ k. tabulate (same.limits k) f) ∙ tabulate-cong Q.limits f g h

  -- ---- the formulas of a step; x and y are amounts that are the same at every material
  module _ (x y : ℕ → ℤ) (alike : (j : ℕ) → j < Q.materials → x j ≡ y j) where
    costs : cost_of P x ≡ cost_of Q y
    unfolding cost_of
    costs = over-materials _ _ (λ j l k. same.cost j l k *ℤ alike j l k)

    residuals : (i : ℕ) → i < Q.limits → residual P x i ≡ residual Q y i
    unfolding residual load_of
    residuals i l =
        let load = over-materials _ _ (λ j h k. same.coefficient i j l h k *ℤ alike j h k) in
        λ k. load k -ℤ same.rhs i l k

    dual-values : (M : ℕ → ℤ) → dual_value P M x ≡ dual_value Q M y
    unfolding dual_value
    dual-values M =
        let rest = over-limits _ _ (λ i l k. M i *ℤ residuals i l k) in
        λ k. pos (same.scale k) *ℤ costs k +ℤ rest k

  amounts : (M : ℕ → ℤ) (j : ℕ) → j < Q.materials → amount P M j ≡ amount Q M j
  unfolding amount reduced_cost
  amounts M j l =
      let rest = over-limits _ _ (λ i h k. M i *ℤ same.coefficient i j h l k) in
      λ k. cond (lt_z (pos (same.scale k) *ℤ same.cost j l k +ℤ rest k) (pos 0)) (same.most j l k) (same.least j l k)

  greatest-costs : greatest_cost P ≡ greatest_cost Q
  unfolding greatest_cost
  greatest-costs = costs _ _ (λ j l k. cond (lt_z (pos 0) (same.cost j l k)) (same.most j l k) (same.least j l k))

  cheapest-costs : cheapest_cost P ≡ cheapest_cost Q
  unfolding cheapest_cost
  cheapest-costs = costs _ _ (λ j l k. cond (lt_z (same.cost j l k) (pos 0)) (same.most j l k) (same.least j l k))

  -- ---- a look, and a step
  looks : (M : ℕ → ℤ) → look_at P M ≡ look_at Q M
  unfolding look_at
  looks M =
      let x = at (tabulate P.materials (amount P M)) in
      let y = at (tabulate Q.materials (amount Q M)) in
      let same-list = by-materials (amount P M) (amount Q M) (amounts M) in
      let alike : (j : ℕ) → j < Q.materials → x j ≡ y j = λ j _ k. at (same-list k) j in
      let same-residuals = by-limits (residual P x) (residual Q y) (residuals x y alike) in
      let same-value = dual-values x y alike M in
      λ k. record { amounts = same-list k; residuals = same-residuals k; dual_value = same-value k }

  nexts : (w : State) → next P w ≡ next Q w
  unfolding next moved
  nexts w =
      let M = at w.multipliers in
      let q = looks M in
      let moves = by-limits
      (moved P M (at (look_at P M).residuals))
      (moved Q M (at (look_at Q M).residuals))
      (λ i _ k. maxℤ (pos 0) (M i +ℤ pos (same.numerator k) *ℤ at (q k).residuals i)) in
      let sums = by-materials
      (λ j. at w.sums j +ℤ at (look_at P M).amounts j)
      (λ j. at w.sums j +ℤ at (look_at Q M).amounts j)
      (λ j _ k. at w.sums j +ℤ at (q k).amounts j) in
      let totals = by-limits
      (λ i. at w.residual_totals i +ℤ at (look_at P M).residuals i)
      (λ i. at w.residual_totals i +ℤ at (look_at Q M).residuals i)
      (λ i _ k. at w.residual_totals i +ℤ at (q k).residuals i) in
      λ k. record {
        multipliers = moves k;
        sums = sums k;
        residual_totals = totals k;
        lower_bound = maxℤ w.lower_bound (q k).dual_value;
      }

  -- ---- the run
  starting-states : starting_state P ≡ starting_state Q
  unfolding starting_state
  starting-states =
      let multipliers = by-limits P.starting_multiplier Q.starting_multiplier same.starting_multiplier in
      let sums = by-materials (λ _. pos 0) (λ _. pos 0) (λ _ _. refl) in
      let totals = by-limits (λ _. pos 0) (λ _. pos 0) (λ _ _. refl) in
      λ k. record {
        multipliers = multipliers k;
        sums = sums k;
        residual_totals = totals k;
        lower_bound = pos (same.scale k) *ℤ cheapest-costs k;
      }

  states : (t : ℕ) → state_after P t ≡ state_after Q t
  unfolding state_after
  states zero = starting-states
  states (suc t) = nexts (state_after P t) ∙ ap (next Q) (states t)

  looks-at : (t : ℕ) → look_after P t ≡ look_after Q t
  unfolding look_after
  looks-at t = looks (at (state_after P t).multipliers) ∙ (λ k. look_at Q (at (states t k).multipliers))

  look-refusals : (t : ℕ) → look_refusal P t ≡ look_refusal Q t
  unfolding look_refusal infeasible
  look-refusals t = λ i. refuse 9 t (lt_z (pos (same.scale i) *ℤ greatest-costs i) (looks-at t i).dual_value)

  step-refusals : (k : ℕ) → step_refusal P k ≡ step_refusal Q k
  unfolding step_refusal refusal_at diverged
  step-refusals k =
      first_cong k _ _
      (λ t _ i.
      look-refusals t i
      otherwise refuse 10 t
      (any_below (same.limits i) (λ j. lt_z (pos 1073741824) (at (states (suc t) i).multipliers j))))

  pub same-refusal : (k : ℕ) → run_refusal P k ≡ run_refusal Q k
  unfolding run_refusal
  same-refusal k = λ i. step-refusals k i otherwise look-refusals k i

  lows : (k : ℕ) → low_after P k ≡ low_after Q k
  unfolding low_after closing_value
  lows k = λ i. maxℤ (states k i).lower_bound (looks-at k i).dual_value

  gaps : (k : ℕ)
      → gap_of P k (low_after P k) (at (state_after P k).sums) ≡ gap_of Q k (low_after Q k) (at (state_after Q k).sums)
  unfolding gap_of
  gaps k =
      let cost = costs (at (state_after P k).sums) (at (state_after Q k).sums) (λ j _ i. at (states k i).sums j) in
      λ i. pos (same.scale i) *ℤ cost i -ℤ pos k *ℤ lows k i

  pub same-plan : (k : ℕ) → plan_after P k ≡ plan_after Q k
  unfolding plan_after
  same-plan k = λ i. record {
    materials = same.materials i;
    limits = same.limits i;
    steps = k;
    low = lows k i;
    gap = gaps k i;
    sums = (states k i).sums;
    multipliers = (states k i).multipliers;
    residual_totals = (states k i).residual_totals;
  }
