-- Amounts that are the same at every material have the same cost, and it fits alike. So it is with a list of amounts in
-- an
-- array.
use Rattle.std.specs.Prelude.{◌≡◌, List, ℕ, ◌<◌, ◌≤◌, ℤ, pos, ◌+ℤ◌, ◌*ℤ◌}
use Rattle.std.specs.Int.{w32, w64}
use Rattle.std.proofs.Common.{ap, sym, ◌∙◌, subst, lt_of_lt_of_le, SFits}
use Rattle.proof_integer.specs.Sum.{sum_to-cong}
use Rattle.proof_integer.specs.Vector.{length-tabulate, at-tabulate}
use Rattle.rules.specs.Notation.{sum_to, tabulate, at}
use Rattle.rules.specs.Problem.{Problem, cost_of}
use Rattle.sheet_figures.specs.Padded.{padded, at-padded}
use Rattle.run_costs.specs.Costs.{CostFits}

module _ (P : Problem) {x y : ℕ → ℤ} (alike : (j : ℕ) → j < P.materials → x j ≡ y j) where
  parts : (n : ℕ) → n ≤ P.materials → sum_to n (λ j. P.cost j *ℤ x j) ≡ sum_to n (λ j. P.cost j *ℤ y j)
  parts n l = sum_to-cong n _ _ (λ j h. ap (λ z. P.cost j *ℤ z) (alike j (lt_of_lt_of_le h l)))

  pub same-cost : cost_of P x ≡ cost_of P y
  unfolding cost_of
  same-cost = sum_to-cong P.materials _ _ (λ j h. ap (λ z. P.cost j *ℤ z) (alike j h))

  pub fits-alike : CostFits P x → CostFits P y
  fits-alike fits = record {
    narrow = fits.narrow;
    scale = fits.scale;
    sum = record {
      one = λ j h. subst (λ z. SFits w32 (P.cost j *ℤ z)) (alike j h) (fits.sum.one j h);
      part = λ n l. subst (λ z. SFits w32 (pos 0 +ℤ z)) (parts n l) (fits.sum.part n l);
    };
    scaled = subst (λ z. SFits w64 (pos P.scale *ℤ z)) same-cost fits.scaled;
  }

-- the array that holds the first n of f has them
pub held : (n : ℕ) (f : ℕ → ℤ) {ends : List ℤ} → n ≤ 32 → ends ≡ padded 32 (tabulate n f)
    → (j : ℕ) → j < n → f j ≡ at ends j
held n f {ends} narrow e j l =
    sym
    (ap (λ (xs : List ℤ). at xs j) e
    ∙ ap (λ (g : ℕ → ℤ). g j) (at-padded 32 (tabulate n f) (rw length-tabulate narrow))
    ∙ at-tabulate n f j l)
