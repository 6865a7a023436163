-- The text of the plan that a record holds, out of the bytes of the record.
use Rattle.std.specs.Prelude.{ℕ, ◌+◌, ◌*◌, ◌≤◌, ◌≡◌, List, [], ◌∷◌, ◌++◌, length, ℤ, pos}
use Rattle.std.proofs.Common.{sym}
use Rattle.proof_integer.specs.Vector.{at-tabulate}
use Rattle.rules.specs.Notation.{tabulate, at}
use Rattle.rules.specs.Bytes.{unsigned_at, signed_at}
use Rattle.rules.specs.Record.{limits_at, low_at, gap_at, sums_at, multipliers_at, totals_at, record_length, recorded}
use Rattle.rules.specs.Listing.{text, line, lines, plan_text}
use Rattle.out_layout.specs.RecordSizes.{RecordSizes}
use Rattle.out_lines.specs.Lines.{line_of}
use Rattle.out_lines.specs.ManyLines.{lines-agree}
use Rattle.out_values.specs.StepsLine.{steps_line}
use Rattle.out_rows.specs.RecordLines.{material_line, limit_line}

-- bytes that begin with a record of n materials and m limits
pub record WholeRecord (r : List ℕ) (n m : ℕ) : Type 0 where
  pub materials : n ≡ unsigned_at 2 r 0
  pub limits : m ≡ unsigned_at 2 r limits_at
  pub sizes : RecordSizes n m
  pub whole : record_length n m ≤ length r

-- the lines of the plan of a record with n materials and m limits, each out of the record's bytes
unfoldable pub record_text : List ℕ → ℕ → ℕ → List ℕ
record_text r n m =
    steps_line r
    ++ lines n (material_line r)
    ++ lines m (limit_line r (multipliers_at n) (totals_at n m))
    ++ line_of (text "low") (signed_at 8 r low_at ∷ [])
    ++ line_of (text "gap") (signed_at 8 r gap_at ∷ [])

-- they are the text of the plan that the record holds
pub plan-text : (r : List ℕ) → record_text r (unsigned_at 2 r 0) (unsigned_at 2 r limits_at) ≡ plan_text (recorded r)
unfolding record_text plan_text recorded steps_line material_line limit_line line_of line
plan-text r =
    let n = unsigned_at 2 r 0 in
    let m = unsigned_at 2 r limits_at in
    let sum : ℕ → ℤ = λ j. signed_at 4 r (sums_at + 4 * j) in
    let multiplier : ℕ → ℤ = λ i. signed_at 4 r (multipliers_at n + 4 * i) in
    let total : ℕ → ℤ = λ i. signed_at 8 r (totals_at n m + 8 * i) in
    let materials : lines n (material_line r) ≡ lines n (λ j. line "mat" (pos j ∷ at (tabulate n sum) j ∷ [])) =
    lines-agree n _ _ (λ j h k. line "mat" (pos j ∷ sym (at-tabulate n sum j h) k ∷ [])) in
    let limits : lines m (limit_line r (multipliers_at n) (totals_at n m))
    ≡ lines m (λ i. line "lim" (pos i ∷ at (tabulate m multiplier) i ∷ at (tabulate m total) i ∷ [])) =
    lines-agree m _ _
    (λ i h k. line "lim" (pos i ∷ sym (at-tabulate m multiplier i h) k ∷ sym (at-tabulate m total i h) k ∷ [])) in
    λ k. steps_line r ++ materials k ++ limits k
    ++ line_of (text "low") (signed_at 8 r low_at ∷ [])
    ++ line_of (text "gap") (signed_at 8 r gap_at ∷ [])
