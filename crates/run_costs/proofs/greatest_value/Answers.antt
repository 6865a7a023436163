-- With the sign −1 the ends are those of the greatest cost.
use Rattle.std.proofs.Common.{rules, ◌∙◌, negsuc, SFits, to_z-of_z}
use Rattle.std.specs.Int.{w64}
use Rattle.proof_integer.specs.Range.{bnd-of}
use Rattle.rules.specs.Step.{greatest_cost}
use Rattle.run_ends.specs.SignedEnds.{materials_of}
use Rattle.run_costs.proofs.Signs.{greatest-by-sign, signed-fit, signed-cost}
use Rattle.run_costs.proofs.greatest_value.Goals as goal

pub value_at_ends-requires : goal.value_at_ends-requires
value_at_ends-requires c =
    let P = materials_of c.args.f.now in
    signed-fit P (negsuc 0) (greatest-by-sign P) (bnd-of _ (search rules)) c.requires

pub returns : goal.returns
unfolding greatest_cost
returns c =
    let P = materials_of c.args.f.now in
    let fits : SFits w64 c.value_at_ends.result = search rules in
    signed-cost P (negsuc 0) (greatest-by-sign P) (to_z-of_z fits ∙ c.value_at_ends.ensures)
