use Rattle.std.proofs.Common.{◌≡◌, ℕ, ◌+◌, ◌-◌, ◌*◌, ◌<◌, ◌≤◌, ℤ, ◌+ℤ◌, ◌-ℤ◌, ◌*ℤ◌, pos, List, length}
use Rattle.std.proofs.Common.{take, drop, sym, ap, subst, ◌∙◌, rules, arith}
use Rattle.std.proofs.Common.{SFits, to_z, of_z, to_z-of_z}
use Rattle.std.proofs.Math.IntN.{+ℤ_idl}
use Rattle.std.proofs.lemmas.List.{map-id, get_or-drop, length-drop, take_all}
use Rattle.std.specs.Int.{w32}
use Rattle.rules.specs.Notation.{sum_to, at}
use Rattle.rules.specs.Problem.{Problem, load_of}
use Rattle.rules.specs.Step.{residual}
use Rattle.sheet_figures.specs.declared.Figures.{Figures}
use Rattle.sheet_figures.specs.Figures.{problem_of}
use Rattle.sheet_figures.specs.Padded.{fill_start, fill-next}
use Rattle.run_sums.specs.SumsFit.{SumFits}
use Rattle.run_look.proofs.take_residuals.Goals as goal

-- with the load and b
module _ (P : Problem) (x : ℕ → ℤ) (i : ℕ) {r : ℤ} (r-fits : SFits w32 r) (b-fits : SFits w32 (P.rhs i))
    (whole : SFits w32 (residual P x i)) (r-is : r ≡ load_of P x i) where
  abbrev difference : ℤ
  difference = to_z w32 (of_z w32 r) -ℤ to_z w32 (of_z w32 (P.rhs i))

  difference-is : difference ≡ residual P x i
  unfolding residual
  difference-is = simp (to_z-of_z r-fits, to_z-of_z b-fits) (ap (λ z. z -ℤ P.rhs i) r-is)

  difference-fits : SFits w32 difference
  difference-fits = rw difference-is whole

  stored-is : to_z w32 (of_z w32 difference) ≡ residual P x i
  stored-is = to_z-of_z difference-fits ∙ difference-is

-- row i of the coefficients, from its first place on
module _ (a : List ℤ) (long : length a ≡ 512) (i : ℕ) where
  abbrev row : List ℤ
  row = take (512 - 32 * i) (drop (32 * i) a)

  row-is : row ≡ drop (32 * i) a
  row-is = take_all (512 - 32 * i) (drop (32 * i) a) (omega (arith, length-drop (32 * i) a))

  row-length : length row ≡ 512 - 32 * i
  row-length = ap length row-is ∙ length-drop (32 * i) a ∙ ap (λ (n : ℕ). n - 32 * i) long

  row-reads : at row ≡ (λ j. at a (32 * i + j))
  row-reads = λ k j. (ap (λ (xs : List ℤ). at xs j) row-is ∙ get_or-drop (32 * i) a j (pos 0)) k

pub loop-i-init : goal.loop-i-init
loop-i-init c = c.requires.empty ∙ sym (fill_start 16 _)

pub dot-load-requires : goal.dot-load-requires
dot-load-requires c =
    let q = c.requires in
    let a = c.args.coefficient.now in
    let x = at c.args.amounts.now in
    let i = c.loop-i.i in
    let n = c.args.f.now.materials in
    let in-row : n ≤ length (row a c.told-coefficient i) =
    omega (arith, row-length a c.told-coefficient i, q.narrow, q.few) in
    simp map-id
    (record {
      in_x = in-row;
      in_y = search rules;
      sum =
          subst (λ (h : ℕ → ℤ). SumFits w32 (pos 0) (λ j. h j *ℤ x j) n)
          (sym (row-reads a c.told-coefficient i)) (q.load i c.loop-i-test.true);
    })

-- the sum that the code forms is the load
module _ (f : Figures) (a : List ℤ) (long : length a ≡ 512) (x : ℕ → ℤ) (i : ℕ) where
  load-is : {r : ℤ} → r ≡ pos 0 +ℤ sum_to f.materials (λ j. at (row a long i) j *ℤ x j)
      → r ≡ load_of (problem_of f a) x i
  unfolding load_of
  load-is e = e ∙ +ℤ_idl _ ∙ (λ k. sum_to f.materials (λ j. row-reads a long i k j *ℤ x j))

pub overflow_sub-residuals : goal.overflow_sub-residuals
overflow_sub-residuals c =
    let f = c.args.f.now in
    let a = c.args.coefficient.now in
    let x = at c.args.amounts.now in
    let i = c.loop-i.i in
    let r-fits : SFits w32 c.dot-load.result = search rules in
    let b-fits : SFits w32 (at f.rhs i) = search rules in
    difference-fits (problem_of f a) x i r-fits b-fits (c.requires.whole i c.loop-i-test.true)
    (load-is f a c.told-coefficient x i (simp map-id at c.dot-load.ensures))

pub loop-i-preserved : goal.loop-i-preserved
loop-i-preserved c =
    let f = c.args.f.now in
    let a = c.args.coefficient.now in
    let x = at c.args.amounts.now in
    let i = c.loop-i.i in
    let r-fits : SFits w32 c.dot-load.result = search rules in
    let b-fits : SFits w32 (at f.rhs i) = search rules in
    let whole = c.requires.whole i c.loop-i-test.true in
    let is = load-is f a c.told-coefficient x i (simp map-id at c.dot-load.ensures) in
    let here : i < 16 = omega (arith, c.requires.few) in
    fill-next 16 _ here c.loop-i.invariant (stored-is (problem_of f a) x i r-fits b-fits whole is)
