-- The arrays of a state read as its lists, and changed in place they hold the changed lists.
use Rattle.std.specs.Prelude.{◌≡◌, List, ℕ, ◌≤◌, ℤ, length}
use Rattle.std.proofs.Common.{◌∙◌, le_of_eq, le_trans}
use Rattle.rules.specs.Notation.{tabulate, at}
use Rattle.rules.specs.Problem.{Problem}
use Rattle.rules.specs.Run.{state_after}
use Rattle.proof_laws.specs.Lengths.{multipliers-length, sums-length, totals-length}
use Rattle.proof_magnitudes.specs.Accepted.{Accepted}
use Rattle.proof_magnitudes.specs.Steps.{entering}
use Rattle.sheet_figures.specs.Padded.{padded, at-padded}
use Rattle.run_totals.specs.Changed.{Changed, changed-all}

-- an array that holds a list of n elements, of which there is room for all, reads as the list
pub array-reads : (room : ℕ) (xs : List ℤ) {n : ℕ} {array : List ℤ}
    → array ≡ padded room xs → length xs ≡ n → n ≤ room → at array ≡ at xs
array-reads room xs e l few = (λ k. at (e k)) ∙ at-padded room xs (le_trans (le_of_eq l) few)

module _ {P : Problem} {k : ℕ} (accepted : Accepted P k) (t : ℕ) where
  pub multipliers-read : {array : List ℤ} → array ≡ padded 16 (state_after P t).multipliers → at array ≡ entering P t
  multipliers-read e = array-reads 16 (state_after P t).multipliers e (multipliers-length P t) accepted.limits-few

  pub sums-read : {array : List ℤ} → array ≡ padded 32 (state_after P t).sums → at array ≡ at (state_after P t).sums
  sums-read e = array-reads 32 (state_after P t).sums e (sums-length P t) accepted.materials-few

  pub totals-read : {array : List ℤ} → array ≡ padded 16 (state_after P t).residual_totals
      → at array ≡ at (state_after P t).residual_totals
  totals-read e = array-reads 16 (state_after P t).residual_totals e (totals-length P t) accepted.limits-few

  pub multipliers-changed : {f : ℕ → ℤ} {array new : List ℤ} → array ≡ padded 16 (state_after P t).multipliers
      → Changed P.limits f array new → new ≡ padded 16 (tabulate P.limits f)
  multipliers-changed e = changed-all 16 (state_after P t).multipliers e (multipliers-length P t) accepted.limits-few

  pub sums-changed : {f : ℕ → ℤ} {array new : List ℤ} → array ≡ padded 32 (state_after P t).sums
      → Changed P.materials f array new → new ≡ padded 32 (tabulate P.materials f)
  sums-changed e = changed-all 32 (state_after P t).sums e (sums-length P t) accepted.materials-few

  pub totals-changed : {f : ℕ → ℤ} {array new : List ℤ} → array ≡ padded 16 (state_after P t).residual_totals
      → Changed P.limits f array new → new ≡ padded 16 (tabulate P.limits f)
  totals-changed e = changed-all 16 (state_after P t).residual_totals e (totals-length P t) accepted.limits-few
