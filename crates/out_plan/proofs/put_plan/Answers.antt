-- The lines of a plan, one kind after the other.
use Rattle.std.proofs.Common.{rules, ◌∙◌}
use Rattle.rules.specs.Listing.{text}
use Rattle.out_text.specs.Growing.{puts-as}
use Rattle.out_text.specs.Grows.{grows-then, put-in}
use Rattle.out_plan.specs.RecordText.{record_text, plan-text}
use Rattle.out_plan.proofs.put_plan.Goals as goal

pub returns : goal.returns
unfolding record_text text
returns c =
    let r = c.args.«record».now in
    let limits-put = rw (c.multipliers_at.ensures, c.totals_at.ensures) at c.put_limits.ensures in
    let rows = grows-then (grows-then c.put_steps.ensures c.put_materials.ensures) limits-put in
    let all = grows-then (grows-then rows c.put_value.ensures) c.put_value-2.ensures in
    puts-as
    ((λ k. record_text r (c.requires.materials k) (c.requires.limits k)) ∙ plan-text r)
    (put-in all (search rules))
