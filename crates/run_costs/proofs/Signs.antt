-- By the sign 1 the ends are those of the cheapest cost, and by −1 those of the greatest.
use mathlib.Core.Path.{◌≡◌, sym, subst, ◌∙◌}
use Prim.Native.Nat.{ℕ}
use mathlib.Core.Bool.{cond}
use lib.IntN.{ℤ, pos, negsuc, ◌*ℤ◌}
use lib.Signed.{lt_z}
use Rattle.proof_integer.specs.Range.{Bnd}
use Rattle.proof_integer.specs.Ring.{one-*ℤ}
use Rattle.rules.specs.Problem.{Problem, cost_of}
use Rattle.proof_magnitudes.specs.CostRange.{cheapest_end, greatest_end}
use Rattle.run_ends.specs.Ends.{end_by, opposite-sign}
use Rattle.run_ends.specs.SignedEnds.{signed_end}
use Rattle.run_costs.specs.Costs.{CostFits, SignedEndsFit}

module _ (P : Problem) where
  pub cheapest-by-sign : signed_end (pos 1) P ≡ cheapest_end P
  unfolding end_by
  cheapest-by-sign = λ k j. cond (lt_z (one-*ℤ (P.cost j) k) (pos 0)) (P.most j) (P.least j)

  pub greatest-by-sign : signed_end (negsuc 0) P ≡ greatest_end P
  unfolding end_by
  greatest-by-sign = λ k j. cond (opposite-sign (P.cost j) k) (P.most j) (P.least j)

-- the cost at ends that a sign gives: what it asks, and what it is
module _ (P : Problem) (sign : ℤ) {ends : ℕ → ℤ} (by-sign : signed_end sign P ≡ ends) where
  pub signed-fit : Bnd sign 1 → CostFits P ends → SignedEndsFit sign P
  signed-fit unit fits = record { unit = unit; cost = subst (CostFits P) (sym by-sign) fits }

  pub signed-cost : {value : ℤ} → value ≡ pos P.scale *ℤ cost_of P (signed_end sign P)
      → value ≡ pos P.scale *ℤ cost_of P ends
  signed-cost e = e ∙ (λ k. pos P.scale *ℤ cost_of P (by-sign k))
