-- The line of the word, the limit's number, its multiplier and its residual total.
use Rattle.std.proofs.Common.{◌≡◌, ◌∙◌, [], ◌∷◌, arith, pos, to_z, to_z-of_z, SFits}
use Rattle.std.proofs.Math.Facts.{to_z_pos}
use Rattle.std.specs.Int.{w64}
use Rattle.rules.specs.Listing.{text, line}
use Rattle.out_text.specs.Grows.{grows-as}
use Rattle.out_lines.specs.Lines.{line_of}
use Rattle.out_rows.specs.RecordLines.{limit_line}
use Rattle.out_rows.proofs.put_limit.Goals as goal

pub returns : goal.returns
unfolding limit_line line_of line text
returns c =
    let i = c.args.i in
    let number : to_z w64 i ≡ pos i = to_z_pos w64 (omega arith) in
    let multiplier : SFits w64 c.signed_at-multiplier.result = record { sfits = c.signed_at-multiplier.type_inv } in
    let total : SFits w64 c.signed_at-total.result = record { sfits = c.signed_at-total.type_inv } in
    grows-as
    (λ k. line_of (text "lim")
    (number k ∷ (to_z-of_z multiplier ∙ c.signed_at-multiplier.ensures) k
    ∷ (to_z-of_z total ∙ c.signed_at-total.ensures) k ∷ []))
    c.put_line.ensures
