-- Each size is written after those before it.
use Rattle.std.proofs.Common.{ap, ◌∙◌, List, ℕ, append_assoc, append-nil}
use Rattle.rules.specs.Bytes.{unsigned_bytes, laid}
use Rattle.bytes_write.specs.Written.{written, unfilled, fill}
use Rattle.bytes_write.specs.Number.{length-unsigned}
use Rattle.sheet_arrays.specs.Laid.{size_bytes}
use Rattle.sheet_put.proofs.put_sizes.Goals as goal

pub returns : goal.returns
unfolding size_bytes laid
returns c =
    let d₀ = c.args.sheet.now in
    let z = c.args.sizes in
    let e = c.args.e in
    let n = z.shape.materials in
    let m = z.shape.limits in
    let with-n = fill (unsigned_bytes 2 n) (unfilled d₀) (length-unsigned 2 n) c.put_unsigned.ensures in
    let with-m = fill (unsigned_bytes 2 m) with-n (length-unsigned 2 m) c.put_unsigned-2.ensures in
    let with-e = fill (unsigned_bytes 2 e) with-m (length-unsigned 2 e) c.put_unsigned-3.ensures in
    let p = z.numerator in
    let with-p = fill (unsigned_bytes 2 p) with-e (length-unsigned 2 p) c.put_unsigned-4.ensures in
    let D = z.scale in
    let with-D = fill (unsigned_bytes 2 D) with-p (length-unsigned 2 D) c.put_unsigned-5.ensures in
    let k = z.steps in
    let with-k = fill (unsigned_bytes 2 k) with-D (length-unsigned 2 k) c.put_unsigned-6.ensures in
    with-k.is ∙ ap (λ (bytes : List ℕ). written bytes d₀) (simp (append_assoc, append-nil))
