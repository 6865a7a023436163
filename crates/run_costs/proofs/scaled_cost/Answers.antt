-- The sum of the products is the cost, and D times it fits.
use Rattle.std.proofs.Common.{rules, ◌≡◌, ◌∙◌, pos, SFits, to_z, to_z-of_z}
use Rattle.std.proofs.Math.IntN.{+ℤ_idl}
use Rattle.std.proofs.lemmas.List.{map-id}
use Rattle.std.specs.Int.{w32, w64}
use Rattle.proof_integer.specs.Range.{widened_is, small_is}
use Rattle.rules.specs.Notation.{at}
use Rattle.rules.specs.Problem.{cost_of}
use Rattle.run_ends.specs.SignedEnds.{materials_of}
use Rattle.run_costs.proofs.scaled_cost.Goals as goal

pub dot-sum-requires : goal.dot-sum-requires
dot-sum-requires c =
    simp map-id (record { in_x = search rules; in_y = search rules; sum = c.requires.sum })

pub returns : goal.returns
unfolding cost_of
returns c =
    let f = c.args.f.now in
    let sum-fits : SFits w32 c.dot-sum.result = search rules in
    let scale-is : to_z w64 f.scale ≡ pos f.scale = small_is w64 {N = 1024} tt c.requires.scale in
    let sum-is : c.dot-sum.result ≡ cost_of (materials_of f) (at c.args.amounts.now) =
    (simp map-id at c.dot-sum.ensures) ∙ +ℤ_idl _ in
    rw (scale-is, c.from.ensures, widened_is w64 tt sum-fits, sum-is) (to_z-of_z c.requires.scaled)
