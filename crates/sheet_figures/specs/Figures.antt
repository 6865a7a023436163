-- The arrays of a problem with k steps, and the problem that stands in arrays.
use Rattle.std.specs.Prelude.{◌≡◌, refl, List, ℕ, zero, suc, ◌+◌, ◌*◌, ◌<◌, ◌≤◌, ℤ, pos, length, replicate}
use Rattle.std.proofs.Common.{sym, ap, ◌∙◌, zero-add, add-one, arith}
use Rattle.std.proofs.lemmas.List.{length-replicate}
use Rattle.rules.specs.Notation.{tabulate, at}
use Rattle.rules.specs.Problem.{Problem}
use Rattle.proof_integer.specs.Vector.{tabulate-cong}
use Rattle.proof_laws.specs.Agreeing.{Agree}
use Rattle.sheet_figures.specs.declared.Figures.{Figures}
use Rattle.sheet_figures.specs.Put.{put, put_rows, put-cong, put-here, rows-cong, rows-here}
use Rattle.sheet_figures.specs.Padded.{padded, filled, fill_start, fill-next}

-- n figures in an array of `room` places, and 0 at the others
unfoldable pub array : ℕ → ℕ → (ℕ → ℤ) → List ℤ
array room n f = put (replicate room (pos 0)) 0 n f

-- the figures of a problem in arrays of 32 and 16 places
unfoldable pub figures_of : Problem → ℕ → Figures
figures_of P k = record {
  materials = P.materials;
  limits = P.limits;
  numerator = P.numerator;
  scale = P.scale;
  steps = k;
  cost = array 32 P.materials P.cost;
  least = array 32 P.materials P.least;
  most = array 32 P.materials P.most;
  rhs = array 16 P.limits P.rhs;
  start = array 16 P.limits P.starting_multiplier;
}

-- the coefficients of a problem in a lent array: a row of 32 places for each limit; the other places stay as lent
unfoldable pub coefficients_over : List ℤ → Problem → List ℤ
coefficients_over lent P = put_rows lent P.limits P.materials P.coefficient

-- ---- the problem whose figures stand in arrays, with multipliers that begin at s
abbrev pub started_in : (n m p D : ℕ) → (c l u a b s : List ℤ) → Problem
started_in n m p D c l u a b s = record {
  materials = n;
  limits = m;
  numerator = p;
  scale = D;
  cost = at c;
  least = at l;
  most = at u;
  coefficient = λ i j. at a (32 * i + j);
  rhs = at b;
  starting_multiplier = at s;
}

-- the problem whose figures these are
abbrev pub problem_of : Figures → List ℤ → Problem
problem_of F a =
    started_in F.materials F.limits F.numerator F.scale F.cost F.least F.most a F.rhs F.start

-- ---- what stands at each place
-- figure j stands at place j
array-here : (room n : ℕ) (f : ℕ → ℤ) → n ≤ room → (j : ℕ) → j < n → at (array room n f) j ≡ f j
unfolding array
array-here room n f fits j l =
    rw zero-add at (put-here (replicate room (pos 0)) 0 n f (rw (length-replicate, zero-add) fits) j l)

-- and the others hold 0
array-filled : (room n : ℕ) (f : ℕ → ℤ) → n ≤ room → array room n f ≡ filled room f n
unfolding array put
array-filled room zero f fits = sym (fill_start room f)
array-filled room (suc n) f fits =
    rw (zero-add, ← add-one) (fill-next room f fits (array-filled room n f (omega arith)) refl)

-- so that such an array is that of its first n figures
pub array_whole : (room n : ℕ) (f : ℕ → ℤ) → n ≤ room
    → array room n f ≡ padded room (tabulate n (at (array room n f)))
array_whole room n f fits =
    array-filled room n f fits
    ∙ ap (padded room) (sym (tabulate-cong n (at (array room n f)) f (array-here room n f fits)))

-- the arrays of a problem hold its figures
pub in-arrays : (P : Problem) (k : ℕ) (lent : List ℤ) → P.materials ≤ 32 → P.limits ≤ 16 → length lent ≡ 512
    → Agree (problem_of (figures_of P k) (coefficients_over lent P)) P
unfolding figures_of coefficients_over
in-arrays P k lent narrow few room = record {
  materials = refl;
  limits = refl;
  numerator = refl;
  scale = refl;
  cost = array-here 32 P.materials P.cost narrow;
  least = array-here 32 P.materials P.least narrow;
  most = array-here 32 P.materials P.most narrow;
  coefficient = rows-here lent P.limits P.materials P.coefficient narrow (omega arith);
  rhs = array-here 16 P.limits P.rhs few;
  starting_multiplier = array-here 16 P.limits P.starting_multiplier few;
}

-- ---- problems that agree have the same arrays
module _ {P Q : Problem} (same : Agree P Q) where
  array_same : (room : ℕ) {n m : ℕ} (f g : ℕ → ℤ) → n ≡ m → ((j : ℕ) → j < m → f j ≡ g j)
      → array room n f ≡ array room m g
  unfolding array
  array_same room {n} {m} f g e h =
      (λ i. put (replicate room (pos 0)) 0 (e i) f) ∙ put-cong (replicate room (pos 0)) 0 m f g h

  pub figures-same : (k : ℕ) → figures_of P k ≡ figures_of Q k
  unfolding figures_of
  figures-same k = λ i. record {
    materials = same.materials i;
    limits = same.limits i;
    numerator = same.numerator i;
    scale = same.scale i;
    steps = k;
    cost = array_same 32 P.cost Q.cost same.materials same.cost i;
    least = array_same 32 P.least Q.least same.materials same.least i;
    most = array_same 32 P.most Q.most same.materials same.most i;
    rhs = array_same 16 P.rhs Q.rhs same.limits same.rhs i;
    start =
        array_same 16 P.starting_multiplier Q.starting_multiplier same.limits same.starting_multiplier i;
  }

  pub coefficients-same : (lent : List ℤ) → coefficients_over lent P ≡ coefficients_over lent Q
  unfolding coefficients_over
  coefficients-same lent =
      (λ i. put_rows lent (same.limits i) (same.materials i) P.coefficient)
      ∙ rows-cong lent Q.limits Q.materials P.coefficient Q.coefficient same.coefficient
