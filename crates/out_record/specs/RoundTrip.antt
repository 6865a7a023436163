-- The plan that a record holds is the plan that was written, whatever follows the record.
use Rattle.std.specs.Prelude.{◌≡◌, true, ℕ, ◌+◌, ◌*◌, ◌≤◌, ℤ, length}
use Rattle.std.proofs.Common.{ap, ◌∙◌, arith, le-leb, length-append}
use mathlib.Core.List.{List, [], ◌∷◌, ◌++◌, append_assoc, append-nil, flatten}
use Rattle.rules.specs.Notation.{tabulate}
use Rattle.rules.specs.Bytes.{unsigned_at, signed_at, unsigned_bytes, signed_bytes}
use Rattle.rules.specs.Run.{Plan}
use Rattle.rules.specs.Record.{fields, record_of, record_length, recorded, holds_record}
use Rattle.rules.specs.Record.{limits_at, sums_at, multipliers_at, totals_at}
use Rattle.proof_magnitudes.specs.PlanFits.{PlanFits}
use Rattle.bytes_write.specs.Number.{length-unsigned, length-signed, length_fields}
use Rattle.bytes_write.specs.ReadBack.{From, after}
use Rattle.bytes_write.proofs.ReadBack.{unsigned-read, signed-read, figures-read}
use Rattle.out_layout.specs.RecordSizes.{RecordSizes}
use Rattle.out_record.specs.RecordLength.{length-record}

-- n figures have w × n bytes
long : (w : ℕ) {n : ℕ} (zs : List ℤ) → length zs ≡ n → length (fields w zs) ≡ w * n
long w zs l = length_fields w zs ∙ ap (λ (n : ℕ). w * n) l

-- the parts of a record, from its first byte on
parts : (p : Plan) (rest : List ℕ)
    → From (record_of p ++ rest) 0
    (unsigned_bytes 2 p.materials ∷ unsigned_bytes 2 p.limits ∷ unsigned_bytes 2 p.steps
    ∷ signed_bytes 8 p.low ∷ signed_bytes 8 p.gap
    ∷ fields 4 p.sums ∷ fields 4 p.multipliers ∷ fields 8 p.residual_totals ∷ rest ∷ [])
unfolding flatten record_of
parts p rest = record { is = simp (append_assoc, append-nil) }

-- each figure is read from the place after those before it
pub round_trip : {p : Plan} → PlanFits p → (rest : List ℕ) → recorded (record_of p ++ rest) ≡ p
unfolding recorded
round_trip {p} fits rest =
    let r = record_of p ++ rest in
    let materials-at = parts p rest in
    let limits-at = after materials-at (length-unsigned 2 p.materials) in
    let steps-at = after limits-at (length-unsigned 2 p.limits) in
    let low-at = after steps-at (length-unsigned 2 p.steps) in
    let gap-at = after low-at (length-signed 8 p.low) in
    let sums-at = after gap-at (length-signed 8 p.gap) in
    let multipliers-at = after sums-at (long 4 p.sums fits.sums-length) in
    let totals-at = after multipliers-at (long 4 p.multipliers fits.multipliers-length) in
    let n = unsigned-read 2 p.materials materials-at fits.materials in
    let m = unsigned-read 2 p.limits limits-at fits.limits in
    let k = unsigned-read 2 p.steps steps-at fits.steps in
    let low = signed-read 8 p.low low-at fits.low.sfits in
    let gap = signed-read 8 p.gap gap-at fits.gap.sfits in
    let sums = figures-read 4 p.sums sums-at fits.sums-length (λ j l. (fits.sum j l).sfits) in
    let multipliers =
    figures-read 4 p.multipliers multipliers-at fits.multipliers-length (λ i l. (fits.multiplier i l).sfits) in
    let totals = figures-read 8 p.residual_totals totals-at fits.totals-length (λ i l. (fits.total i l).sfits) in
    λ i. record {
      materials = n i;
      limits = m i;
      steps = k i;
      low = low i;
      gap = gap i;
      sums = ((λ i. tabulate (n i) (λ j. signed_at 4 r (sums_at + 4 * j))) ∙ sums) i;
      multipliers = ((λ i. tabulate (m i) (λ j. signed_at 4 r (multipliers_at (n i) + 4 * j))) ∙ multipliers) i;
      residual_totals = ((λ i. tabulate (m i) (λ j. signed_at 8 r (totals_at (n i) (m i) + 8 * j))) ∙ totals) i;
    }

-- the whole record is there
whole-record : {p : Plan} → PlanFits p → (rest : List ℕ)
    → record_length p.materials p.limits ≤ length (record_of p ++ rest)
whole-record {p} fits rest =
    let n = p.materials in
    let m = p.limits in
    rw (length-append, length-record p n m fits.sums-length fits.multipliers-length fits.totals-length)
    (omega arith)

-- bytes that begin with the record of a plan hold a record, where its sizes are at most the largest of a sheet
pub holds-record : {p : Plan} → PlanFits p → RecordSizes p.materials p.limits → (rest : List ℕ)
    → holds_record (record_of p ++ rest) ≡ true
unfolding recorded holds_record
holds-record {p} fits sizes rest =
    let r = record_of p ++ rest in
    let n : unsigned_at 2 r 0 ≡ p.materials = λ i. (round_trip fits rest i).materials in
    let m : unsigned_at 2 r limits_at ≡ p.limits = λ i. (round_trip fits rest i).limits in
    let whole = le-leb (record_length p.materials p.limits) (length r) (whole-record fits rest) in
    rw (n, m, le-leb p.materials 32 sizes.materials, le-leb p.limits 16 sizes.limits, whole)
