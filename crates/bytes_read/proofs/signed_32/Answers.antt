-- A signed number of 4 bytes fits 32 bits.
use Rattle.std.proofs.Common.{rules, w32, w64, FitsSigned, ℤ, ℕ, List, ◌≡◌, get_or, Fits, w8}
use mir.Facts.{to_z-of_z}
use Rattle.rules.specs.Bytes.{unsigned_at, signed_at}
use Rattle.bytes_read.specs.Width.{unsigned-below, signed_below}
use Rattle.bytes_read.proofs.signed_32.Goals as goal

narrow : (s : List ℕ) (bytes : (i : ℕ) → Fits w8 (get_or s i 0)) (at : ℕ) (r : ℤ) → r ≡ signed_at 4 s at
    → FitsSigned w32 r
unfolding signed_at
narrow s bytes at r e = rw e (record { sfits = signed_below 3 (unsigned_at 4 s at) (unsigned-below s bytes 4 at) })

pub overflow_cast-result : goal.overflow_cast-result
overflow_cast-result c =
    let wide : FitsSigned w64 c.signed_at.result = search rules in
    rw (to_z-of_z wide) (narrow c.args.s.now c.type_inv.s c.args.at _ c.signed_at.ensures)

pub returns : goal.returns
returns c =
    let wide : FitsSigned w64 c.signed_at.result = search rules in
    let fits = narrow c.args.s.now c.type_inv.s c.args.at _ c.signed_at.ensures in
    rw (to_z-of_z wide, to_z-of_z fits) c.signed_at.ensures
