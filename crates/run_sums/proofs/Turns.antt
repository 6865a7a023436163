-- One turn of a loop that adds up terms, begun at `first`, whatever the width of the sum.
use Rattle.std.specs.Prelude.{◌≡◌, ℕ, suc, ◌+◌, ◌≤◌, ◌<◌, ℤ, ◌+ℤ◌}
use Rattle.std.specs.Int.{Width}
use Rattle.std.proofs.Common.{sym, ap, ◌∙◌, add-one, arith, SFits}
use Rattle.std.proofs.Math.IntN.{+ℤ_assoc, +ℤ_idr}
use Rattle.proof_integer.specs.Sum.{sum_to-zero, sum_to-suc}
use Rattle.rules.specs.Notation.{sum_to}
use Rattle.run_sums.specs.SumsFit.{SumFits}

-- no term is added yet
pub turn-start : (first : ℤ) (term : ℕ → ℤ) → first ≡ first +ℤ sum_to 0 term
turn-start first term = sym (simp (sum_to-zero, +ℤ_idr))

-- after i turns the sum is that of the first i terms
module _ {w : Width} {first : ℤ} {term : ℕ → ℤ} {count : ℕ} (fits : SumFits w first term count) {sum : ℤ} {i : ℕ}
    (turn : sum ≡ first +ℤ sum_to i term) (l : i < count) where
  sum-next : sum +ℤ term i ≡ first +ℤ sum_to (suc i) term
  sum-next =
      ap (λ z. z +ℤ term i) turn
      ∙ +ℤ_assoc first (sum_to i term) (term i)
      ∙ ap (λ z. first +ℤ z) (sym (sum_to-suc i term))

  -- the sum with term i fits
  pub sum_fits : SFits w (sum +ℤ term i)
  sum_fits = rw sum-next (fits.part (suc i) l)

  -- and is the sum after the turn
  pub turn-next : {r : ℤ} → r ≡ sum +ℤ term i → r ≡ first +ℤ sum_to (i + 1) term
  turn-next e = rw add-one (e ∙ sum-next)

-- for a proof that walks the loop by hand: the sum before turn i
pub record Turn (first : ℤ) (term : ℕ → ℤ) (count : ℕ) (sum : ℤ) (i : ℕ) : Type 0 where
  pub within : i ≤ count
  pub is : sum ≡ first +ℤ sum_to i term

-- for a proof that walks the loop by hand: and after the last
pub turn_end : {first : ℤ} {term : ℕ → ℤ} {count : ℕ} {sum : ℤ} {i : ℕ} → Turn first term count sum i → count ≤ i
    → sum ≡ first +ℤ sum_to count term
turn_end {first} {term} {count} {sum} {i} turn l =
    let all : i ≡ count = omega (arith, turn.within) in
    turn.is ∙ ap (λ (n : ℕ). first +ℤ sum_to n term) all
