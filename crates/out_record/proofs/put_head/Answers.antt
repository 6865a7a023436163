-- Each figure of the head is written after those before it.
use Rattle.std.proofs.Common.{ℕ, List, ap, ◌∙◌, append_assoc, SFits, rules}
use Rattle.std.specs.Int.{w64}
use mir.Facts.{to_z-of_z}
use Rattle.rules.specs.Bytes.{unsigned_bytes, signed_bytes}
use Rattle.bytes_write.specs.Written.{written, unfilled, fill}
use Rattle.bytes_write.specs.Number.{length-unsigned, length-signed}
use Rattle.out_record.specs.RecordParts.{head_bytes}
use Rattle.out_record.proofs.put_head.Goals as goal

pub returns : goal.returns
unfolding head_bytes
returns c =
    let d₀ = c.args.record.now in
    let head = c.args.head in
    let n = head.materials in
    let m = head.limits in
    let k = head.steps in
    let low = head.low in
    let gap = head.gap in
    let with-n = fill (unsigned_bytes 2 n) (unfilled d₀) (length-unsigned 2 n) c.put_unsigned.ensures in
    let with-m = fill (unsigned_bytes 2 m) with-n (length-unsigned 2 m) c.put_unsigned-2.ensures in
    let with-k = fill (unsigned_bytes 2 k) with-m (length-unsigned 2 k) c.put_unsigned-3.ensures in
    let low_fits : SFits w64 low = search rules in
    let gap-fits : SFits w64 gap = search rules in
    let low-put = simp (to_z-of_z low_fits) at c.put_signed.ensures in
    let with-low = fill (signed_bytes 8 low) with-k (length-signed 8 low) low-put in
    let gap-put = simp (to_z-of_z gap-fits) at c.put_signed-2.ensures in
    let with-gap = fill (signed_bytes 8 gap) with-low (length-signed 8 gap) gap-put in
    with-gap.is ∙ ap (λ (bytes : List ℕ). written bytes d₀) (simp append_assoc)
