-- The line of the word, the material's number and its sum.
use Rattle.std.proofs.Common.{◌≡◌, ◌∙◌, [], ◌∷◌, arith, pos, to_z, to_z-of_z, SFits}
use Rattle.std.proofs.Math.Facts.{to_z_pos}
use Rattle.std.specs.Int.{w64}
use Rattle.rules.specs.Listing.{text, line}
use Rattle.out_text.specs.Grows.{grows-as}
use Rattle.out_lines.specs.Lines.{line_of}
use Rattle.out_rows.specs.RecordLines.{material_line}
use Rattle.out_rows.proofs.put_material.Goals as goal

pub returns : goal.returns
unfolding material_line line_of line text
returns c =
    let j = c.args.j in
    let number : to_z w64 j ≡ pos j = to_z_pos w64 (omega arith) in
    let sum : SFits w64 c.signed_at-sum.result = record { sfits = c.signed_at-sum.type_inv } in
    grows-as (λ k. line_of (text "mat") (number k ∷ (to_z-of_z sum ∙ c.signed_at-sum.ensures) k ∷ []))
    c.put_line.ensures
