-- A problem's figures in plain arrays.
use Rattle.std.specs.Prelude.{◌≡◌, refl, Bool, true, false, ℕ, ◌+◌, ◌*◌, ◌/◌, ◌%◌, ◌<◌, ltb, ℤ}
use Rattle.std.proofs.Math.Path.{sym}
use Rattle.std.proofs.Common.{◌∙◌, mul-suc, mul-le-mul_left, mod-eq_of_lt, arith, eq-eqb, ltb-true, ltb-false, SFits}
use Rattle.std.proofs.Math.Nat.{mul-add-div, mul-add-mod_self_left, div-eq_of_lt}
use Rattle.std.specs.Int.{w32}
use Rattle.std.proofs.Math.Facts.{sfits_lit}
use Rattle.proof_integer.specs.Vector.{length-tabulate, at-tabulate}
use Rattle.proof_integer.specs.Tabulated.{at-past}
use Rattle.rules.specs.Notation.{tabulate, at}
use Rattle.rules.specs.Problem.{Problem}
use Rattle.rules_arrays.specs.Arrays.{lengths_match}
use Rattle.rules_arrays.specs.ReadBack.{SameFigures, arrays_of}
use Rattle.sheet_round_trip.specs.Fits.{FiguresFit}

-- place n·i + j of n figures for each limit is figure j of limit i
own-coefficient : (n m : ℕ) (f : ℕ → ℕ → ℤ) (i j : ℕ) → i < m → j < n
    → f i j ≡ at (tabulate (n * m) (λ x. f (x / n) (x % n))) (n * i + j)
own-coefficient n m f i j h l =
    let some : 0 < n = omega arith in
    let inside : n * i + j < n * m = omega (arith, mul-suc n i, mul-le-mul_left n h) in
    let row : (n * i + j) / n ≡ i = rw (mul-add-div some i j, div-eq_of_lt l) (omega arith) in
    let column : (n * i + j) % n ≡ j = mul-add-mod_self_left n i j ∙ mod-eq_of_lt l in
    sym (at-tabulate (n * m) (λ x. f (x / n) (x % n)) (n * i + j) inside ∙ (λ t. f (row t) (column t)))

-- the figures of 0 to n − 1 fit, and past them 0 is read
tabulated-fits : (n : ℕ) (f : ℕ → ℤ) → ((i : ℕ) → SFits w32 (f i)) → (i : ℕ) → SFits w32 (at (tabulate n f) i)
tabulated-fits n f fits i = by (ltb i n) refl
  where
    by : (b : Bool) → ltb i n ≡ b → SFits w32 (at (tabulate n f) i)
    by true t = rw (at-tabulate n f i (ltb-true i n t)) (fits i)
    by false t = rw (at-past (tabulate n f) i (rw (length-tabulate n f) (ltb-false i n t))) (sfits_lit tt)

module _ (P : Problem) where
  pub own-figures : SameFigures P (arrays_of P)
  unfolding arrays_of
  own-figures = record {
    cost = λ j l. sym (at-tabulate P.materials P.cost j l);
    least = λ j l. sym (at-tabulate P.materials P.least j l);
    most = λ j l. sym (at-tabulate P.materials P.most j l);
    coefficient = λ i j h l. own-coefficient P.materials P.limits P.coefficient i j h l;
    rhs = λ i h. sym (at-tabulate P.limits P.rhs i h);
    starting_multiplier = λ i h. sym (at-tabulate P.limits P.starting_multiplier i h);
  }

  pub own-lengths : lengths_match (record { materials = P.materials; limits = P.limits }) (arrays_of P) ≡ true
  unfolding arrays_of lengths_match
  own-lengths = simp (length-tabulate, eq-eqb)

-- ---- figures of 32 bits
pub record ProblemFits (P : Problem) : Type 0 where
  pub cost : (j : ℕ) → SFits w32 (P.cost j)
  pub least : (j : ℕ) → SFits w32 (P.least j)
  pub most : (j : ℕ) → SFits w32 (P.most j)
  pub coefficient : (i j : ℕ) → SFits w32 (P.coefficient i j)
  pub rhs : (i : ℕ) → SFits w32 (P.rhs i)
  pub starting_multiplier : (i : ℕ) → SFits w32 (P.starting_multiplier i)

pub own-fit : (P : Problem) → ProblemFits P → FiguresFit (arrays_of P)
unfolding arrays_of
own-fit P f = record {
  costs = tabulated-fits P.materials P.cost f.cost;
  least_amounts = tabulated-fits P.materials P.least f.least;
  most_amounts = tabulated-fits P.materials P.most f.most;
  coefficients =
      tabulated-fits (P.materials * P.limits) _ (λ x. f.coefficient (x / P.materials) (x % P.materials));
  right_hand_sides = tabulated-fits P.limits P.rhs f.rhs;
  starts = tabulated-fits P.limits P.starting_multiplier f.starting_multiplier;
}
