-- The figures of a sheet that is read (T7.5), in arrays, agree with the sheet's own and lie in their ranges.
use Rattle.std.specs.Prelude.{◌≡◌, List, ℕ, ℤ, length, Ok}
use Rattle.std.proofs.Common.{sym, ◌∙◌}
use Rattle.std.proofs.Math.Path.{transport}
use Rattle.std.proofs.Math.Option.{none}
use Rattle.rules.specs.Problem.{Problem}
use Rattle.rules.specs.Sheet.{sheet_of, problem}
use Rattle.rules.specs.Refusals.{layout_refusal}
use Rattle.proof_laws.specs.Agreeing.{Agree}
use Rattle.proof_magnitudes.specs.Accepted.{Accepted, accepted-same}
use Rattle.proof_magnitudes.proofs.Accepted.{accepted}
use Rattle.sheet_figures.specs.Figures.{figures_of, coefficients_over, problem_of, in-arrays}
use Rattle.sheet_figures.specs.declared.Figures.{Figures}
use Rattle.sheet_read.specs.Reading.{reading_of, figures_unless, coefficients_unless, Reads, same_figures}

module _ (s : List ℕ) (read : layout_refusal s ≡ none) (lent : List ℤ) (long : length lent ≡ 512)
    {a : List ℤ} {f : Figures} (reads : Reads (sheet_of s) (layout_refusal s) lent a (Ok f)) where
  abbrev P : Problem
  P = problem (sheet_of s)

  abbrev k : ℕ
  k = (sheet_of s).sizes.steps

  -- what the arrays are
  pub figures-are : f ≡ figures_of P k
  unfolding reading_of figures_unless
  figures-are = same_figures _ _ (reads.answered ∙ (λ i. figures_unless (read i) (sheet_of s)))

  pub coefficients-are : a ≡ coefficients_over lent P
  unfolding coefficients_unless
  coefficients-are = reads.coefficients ∙ (λ i. coefficients_unless (read i) (sheet_of s) lent)

  pub steps-are : f.steps ≡ k
  unfolding figures_of
  steps-are = λ i. (figures-are i).steps

  -- the problem in them is the sheet's
  pub agree : Agree (problem_of f a) P
  agree =
      let h = accepted s read in
      transport (λ i. Agree (problem_of (sym figures-are i) (sym coefficients-are i)) P)
      (in-arrays P k lent h.materials-few h.limits-few long)

  -- and lies in its ranges
  pub accepted-in-arrays : Accepted (problem_of f a) f.steps
  accepted-in-arrays = transport (λ i. Accepted (problem_of f a) (sym steps-are i))
      (accepted-same agree (accepted s read))
