-- The sum of the column's products is the reduced cost, and the end that it chooses is the amount.
use Rattle.std.proofs.Common.{◌≡◌, ℕ, ◌+◌, ◌*◌, ◌≤◌, ℤ, pos, ◌+ℤ◌, ◌*ℤ◌, List, sym, ap, subst, ◌∙◌, rules, arith, SFits}
use Rattle.std.proofs.Common.{to_z, of_z, to_z-of_z}
use Rattle.std.specs.Int.{w16, w64}
use Rattle.proof_integer.specs.Range.{widened_is, small_is}
use Rattle.rules.specs.Notation.{sum_to, at}
use Rattle.rules.specs.Problem.{Problem}
use Rattle.rules.specs.Step.{reduced_cost, amount}
use Rattle.run_ends.specs.Ends.{end_by}
use Rattle.run_sums.specs.SumsFit.{SumFits}
use Rattle.sheet_figures.specs.Figures.{problem_of}
use Rattle.run_amounts.proofs.amount_at.Goals as goal

-- the products of the column, as the code reads them and as the definition has them
module _ (a : List ℤ) (M : ℕ → ℤ) (j : ℕ) where
  same-products : ◌≡◌ {A = ℕ → ℤ} (λ i. M i *ℤ at a (j + 32 * i)) (λ i. M i *ℤ at a (32 * i + j))
  same-products = λ k i. M i *ℤ at a (place i k)
    where
      place : (i : ℕ) → j + 32 * i ≡ 32 * i + j
      place i = omega arith

-- D·c_j as the code forms it, with the cost read as w
first-is : (D : ℕ) (c : ℤ) {w : ℤ} → D ≤ 1024 → SFits w16 c → SFits w64 (pos D *ℤ c) → w ≡ to_z w16 (of_z w16 c)
    → to_z w64 (of_z w64 (to_z w64 D *ℤ to_z w64 (of_z w64 w))) ≡ pos D *ℤ c
first-is D c s f g e = simp (e, widened_is w64 tt f, small_is w64 {N = 1024} tt s, to_z-of_z g)

pub dot_column_64-reduced-requires : goal.dot_column_64-reduced-requires
dot_column_64-reduced-requires c =
    let a = c.args in
    let f = a.f.now in
    let q = c.requires in
    let fits : SFits w16 (at f.cost a.j) = search rules in
    rw (first-is f.scale (at f.cost a.j) q.scale fits q.scaled-cost c.from.ensures)
    (record {
      few = search rules;
      inside = λ i l. omega (arith, q.inside, q.few);
      sum =
          subst (λ (h : ℕ → ℤ). SumFits w64 (pos f.scale *ℤ at f.cost a.j) h f.limits)
          (sym (same-products a.coefficient.now (at a.multipliers.now) a.j)) q.reduced;
    })

-- the sum of the products, as the function's contract has it, is the reduced cost
module _ (P : Problem) (M : ℕ → ℤ) (j : ℕ) where
  amount-is : {r e : ℤ} → SFits w64 r → SFits w16 (P.least j) → SFits w16 (P.most j)
      → r ≡ reduced_cost P M j
      → e ≡ end_by (to_z w64 (of_z w64 r)) (to_z w16 (of_z w16 (P.least j))) (to_z w16 (of_z w16 (P.most j)))
      → e ≡ amount P M j
  unfolding amount end_by
  amount-is {r} {e} f l u h k =
      (simp (to_z-of_z f, to_z-of_z l, to_z-of_z u) at k) ∙ ap (λ z. end_by z (P.least j) (P.most j)) h

pub returns : goal.returns
unfolding reduced_cost
returns c =
    let a = c.args in
    let q = c.requires in
    let P : Problem = problem_of a.f.now a.coefficient.now in
    let M : ℕ → ℤ = at a.multipliers.now in
    let cost-fits : SFits w16 (P.cost a.j) = search rules in
    let least-fits : SFits w16 (P.least a.j) = search rules in
    let most-fits : SFits w16 (P.most a.j) = search rules in
    let sum-fits : SFits w64 c.dot_column_64-reduced.result = search rules in
    let fits : SFits w16 c.end_by.result = search rules in
    let first = first-is P.scale (P.cost a.j) q.scale cost-fits q.scaled-cost c.from.ensures in
    let reduced : c.dot_column_64-reduced.result ≡ reduced_cost P M a.j =
    c.dot_column_64-reduced.ensures
    ∙ (λ k. first k +ℤ sum_to P.limits (same-products a.coefficient.now M a.j k)) in
    to_z-of_z fits ∙ amount-is P M a.j sum-fits least-fits most-fits reduced c.end_by.ensures
