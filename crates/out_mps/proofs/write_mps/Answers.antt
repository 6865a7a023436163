-- A sheet that is not read (T7.5) is refused as T7.4 says; the figures of any other give the sheet's own text.
use Rattle.std.specs.Prelude.{◌≡◌, ℕ, ℤ, pos, List, length, Result}
use Rattle.std.proofs.Common.{sym, ◌∙◌}
use Rattle.std.proofs.Math.ListN.{replicate, length-replicate}
use Rattle.std.proofs.Math.Path.{transport}
use Rattle.std.proofs.Math.Option.{Option}
use Rattle.std.proofs.lemmas.Result.{err_from_is_err_and}
use Rattle.rules.specs.declared.Refusal.{Refusal}
use Rattle.rules.specs.Refusals.{Numbered}
use Rattle.rules.specs.Output.{short_buffer, Writes}
use Rattle.rules_mps.specs.Mps.{mps_of, mps_refusal}
use Rattle.proof_laws.specs.FirstPlace.{given, handed-on}
use Rattle.proof_laws.specs.Outputs.{writes-refused}
use Rattle.sheet_read.specs.Reading.{figures_read, refused_reading}
use Rattle.sheet_read.specs.Agreeing.{agree, accepted-in-arrays}
use Rattle.out_mps_text.specs.Agreeing.{same_text}
use Rattle.out_mps.proofs.write_mps.Goals as goal

-- the same bytes and the same refusal, named in another way
same_writes : {t u lent after : List ℕ} {met named : Option Numbered} {r : Result ℕ Refusal} → t ≡ u → met ≡ named
    → Writes t met lent after r → Writes u named lent after r
same_writes {lent = lent} {after = after} {r = r} e m w = transport (λ i. Writes (e i) (m i) lent after r) w

-- the array that is lent to the reader
abbrev zeros : List ℤ
zeros = replicate 512 (pos 0)

-- ---- the sheet is refused
pub returns-in_err-figures : goal.returns-in_err-figures
unfolding mps_refusal
returns-in_err-figures c =
    let refused = err_from_is_err_and c.from_residual.result c.from_residual.ensures.1 in
    rw (refused.1, refused.2) (writes-refused _ (given _ (refused_reading _ _ _ c.in_err-figures.ensures.answered)))

-- ---- the sheet is read
pub write_figures-requires : goal.write_figures-requires
write_figures-requires c =
    let reads = c.in_ok-figures.ensures in
    accepted-in-arrays c.args.sheet.now (figures_read _ _ _ reads.answered) zeros (length-replicate 512 (pos 0)) reads

pub returns : goal.returns
unfolding mps_of mps_refusal
returns c =
    let reads = c.in_ok-figures.ensures in
    let read = figures_read _ _ _ reads.answered in
    let same = same_text (agree c.args.sheet.now read zeros (length-replicate 512 (pos 0)) reads) in
    same_writes same ((λ i. short_buffer 11 (same i) (length c.args.text.now)) ∙ sym (handed-on _ read))
    c.write_figures.ensures
