-- The head and the arrays have the plan, so its record is written and its figures are answered.
use Rattle.std.proofs.Common.{◌≡◌, ◌∙◌, ◌++◌, [], drop, rules, to_z, of_z, to_z-of_z, SFits}
use Rattle.std.specs.Int.{w64}
use Rattle.rules.specs.Notation.{at}
use Rattle.rules.specs.Run.{gap_of}
use Rattle.rules.specs.Record.{record_of, record_length}
use Rattle.sheet_figures.specs.Figures.{problem_of}
use Rattle.out_record.specs.RecordParts.{plan_in}
use Rattle.planner.specs.Finish.{plan_with}
use Rattle.planner.proofs.Ending.{ends-planned}
use Rattle.planner.proofs.write_plan.Goals as goal

pub returns : goal.returns
unfolding plan_with plan_in
returns c =
    let f = c.args.f.now in
    let w = c.args.state.now in
    let low_fits : SFits w64 w.low = search rules in
    let low-is : to_z w64 (of_z w64 w.low) ≡ w.low = to_z-of_z low_fits in
    let gap_fits : SFits w64 c.gap-gap.result = search rules in
    let gap_is : to_z w64 (of_z w64 c.gap-gap.result) ≡ (plan_with f w).gap =
    to_z-of_z gap_fits
    ∙ c.gap-gap.ensures
    ∙ (λ k. gap_of (problem_of f []) f.steps (low-is k) (at w.sums))
    in
    ends-planned low-is gap_is
    (c.write_record.ensures
    ∙ (λ i.
    record_of (plan_in (record {
      materials = f.materials;
      limits = f.limits;
      steps = f.steps;
      low = low-is i;
      gap = gap_is i;
    }) w.sums w.multipliers w.totals)
    ++ drop (record_length f.materials f.limits) c.args.«record».now))
