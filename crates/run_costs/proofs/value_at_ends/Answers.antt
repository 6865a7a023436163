-- The ends stand in the array, and their cost is taken.
use Rattle.std.proofs.Common.{rules, ap, sym, ◌∙◌, pos, ◌*ℤ◌, SFits, to_z-of_z}
use Rattle.std.specs.Int.{w64}
use Rattle.rules.specs.Problem.{Problem, cost_of}
use Rattle.run_ends.specs.SignedEnds.{materials_of, signed_end}
use Rattle.run_costs.proofs.Alike.{same-cost, fits-alike, held}
use Rattle.run_costs.proofs.value_at_ends.Goals as goal

pub scaled_cost-requires : goal.scaled_cost-requires
unfolding cost_of
scaled_cost-requires c =
    let P : Problem = materials_of c.args.f.now in
    let ends-are = held c.args.f.now.materials (signed_end c.args.sign P) c.requires.cost.narrow
    (rw (to_z-of_z c.ranges.sign) at c.choose_ends.ensures) in
    let fits = fits-alike P ends-are c.requires.cost in
    record { narrow = fits.narrow; scale = fits.scale; sum = fits.sum; scaled = fits.scaled }

pub returns : goal.returns
unfolding cost_of
returns c =
    let P : Problem = materials_of c.args.f.now in
    let ends-are = held c.args.f.now.materials (signed_end c.args.sign P) c.requires.cost.narrow
    (rw (to_z-of_z c.ranges.sign) at c.choose_ends.ensures) in
    let fits : SFits w64 c.scaled_cost.result = search rules in
    to_z-of_z fits ∙ c.scaled_cost.ensures ∙ ap (λ z. pos c.args.f.now.scale *ℤ z) (sym (same-cost P ends-are))
