-- The line of the word and the step count.
use Rattle.std.proofs.Common.{◌≡◌, ap, ◌∙◌, [], ◌∷◌, arith, pos, to_z}
use Rattle.std.proofs.Math.Facts.{to_z_pos}
use Rattle.std.specs.Int.{w64}
use Rattle.rules.specs.Listing.{text, line}
use Rattle.out_text.specs.Grows.{grows-as}
use Rattle.out_lines.specs.Lines.{line_of}
use Rattle.out_values.specs.StepsLine.{steps_line}
use Rattle.out_values.proofs.put_steps.Goals as goal

pub returns : goal.returns
unfolding steps_line line_of line text
returns c =
    let steps = c.size_at in
    let number : to_z w64 steps.result ≡ pos steps.result = to_z_pos w64 (omega (arith, steps.ensures.small)) in
    grows-as (λ k. line_of (text "steps") ((number ∙ ap pos steps.ensures.is) k ∷ [])) c.put_line.ensures
