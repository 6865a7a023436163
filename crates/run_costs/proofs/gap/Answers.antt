-- The sum of the products is the cost of the sums; both products and their difference fit.
use Rattle.std.proofs.Common.{rules, ◌≡◌, ◌∙◌, ℕ, ℤ, ◌-ℤ◌, ◌*ℤ◌, pos, ap, SFits, to_z, of_z, to_z-of_z}
use Rattle.std.specs.Int.{w64}
use Rattle.proof_integer.specs.Range.{small_is}
use Rattle.rules.specs.Problem.{Problem, cost_of}
use Rattle.rules.specs.Run.{gap_of}
use Rattle.run_ends.specs.SignedEnds.{materials_of}
use Rattle.run_costs.specs.Costs.{GapFits}
use Rattle.run_costs.proofs.Sums.{cost-of-sums}
use Rattle.run_costs.proofs.gap.Goals as goal

-- with the cost of the sums
module _ (P : Problem) (count : ℕ) {low r : ℤ} {s : ℕ → ℤ} (fits : GapFits P count low s)
    (low_fits : SFits w64 low) (r-fits : SFits w64 r) (r-is : r ≡ cost_of P s) where
  abbrev scaled : ℤ
  scaled = to_z w64 P.scale *ℤ to_z w64 (of_z w64 r)

  scaled-is : scaled ≡ pos P.scale *ℤ cost_of P s
  scaled-is = simp (small_is w64 {N = 1024} tt fits.scale, to_z-of_z r-fits) (ap (λ z. pos P.scale *ℤ z) r-is)

  scaled-fits : SFits w64 scaled
  scaled-fits = rw scaled-is fits.scaled

  abbrev difference : ℤ
  difference =
      to_z w64 (of_z w64 scaled) -ℤ to_z w64 (of_z w64 (to_z w64 count *ℤ to_z w64 (of_z w64 low)))

  difference-is : difference ≡ gap_of P count low s
  unfolding gap_of
  difference-is =
      let count-is = small_is w64 {N = 4096} tt fits.few in
      simp (scaled-is, to_z-of_z fits.scaled, count-is, to_z-of_z low_fits, to_z-of_z fits.counted)

  difference-fits : SFits w64 difference
  difference-fits = rw difference-is fits.whole

pub overflow_mul-f : goal.overflow_mul-f
overflow_mul-f c =
    let r-fits : SFits w64 c.dot_column_64-sum.result = search rules in
    let r-is = cost-of-sums c.args.f.now c.args.sums.now c.dot_column_64-sum.ensures in
    scaled-fits (materials_of c.args.f.now) c.args.f.now.steps c.requires c.ranges.low r-fits r-is

pub difference-requires : goal.difference-requires
difference-requires c =
    let r-fits : SFits w64 c.dot_column_64-sum.result = search rules in
    let r-is = cost-of-sums c.args.f.now c.args.sums.now c.dot_column_64-sum.ensures in
    difference-fits (materials_of c.args.f.now) c.args.f.now.steps c.requires c.ranges.low r-fits r-is

pub returns : goal.returns
returns c =
    let r-fits : SFits w64 c.dot_column_64-sum.result = search rules in
    let r-is = cost-of-sums c.args.f.now c.args.sums.now c.dot_column_64-sum.ensures in
    let fits : SFits w64 c.difference.result = search rules in
    to_z-of_z fits
    ∙ c.difference.ensures
    ∙ difference-is (materials_of c.args.f.now) c.args.f.now.steps c.requires c.ranges.low r-fits r-is
