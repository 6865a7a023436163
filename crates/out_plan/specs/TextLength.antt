-- How long the text of a record is at most: any bytes that hold a record, whatever its figures.
use Rattle.std.proofs.Common.{sym, le_of_lt, lt_trans, arith, Fits, SFits}
use Rattle.std.specs.Prelude.{List, [], ◌∷◌, ℕ, ◌*◌, ◌<◌, ◌≤◌, pos, length, get_or}
use Rattle.std.proofs.Math.ListN.{length-append}
use Rattle.std.specs.Int.{w8, w64}
use Rattle.proof_integer.specs.Range.{small-fits, wider}
use Rattle.rules.specs.Notation.{at}
use Rattle.rules.specs.Run.{Plan}
use Rattle.rules.specs.Record.{recorded}
use Rattle.rules.specs.Listing.{text, line, lines, plan_text}
use Rattle.proof_magnitudes.specs.PlanFits.{PlanFits}
use Rattle.out_record.specs.RecordedFits.{recorded-fits}
use Rattle.out_lines.specs.LineLength.{Every, length-line, length-lines}
use Rattle.out_plan.specs.RecordText.{WholeRecord}

-- a place or a count of steps
small : {n : ℕ} → n < 65536 → SFits w64 (pos n)
small l = small-fits {N = 65536} tt (le_of_lt l)

-- the lines of a plan whose figures fit
module _ {p : Plan} (fits : PlanFits p) where
  steps-line : length (line "steps" (pos p.steps ∷ [])) ≤ 27
  unfolding Every text
  steps-line = length-line "steps" _ (small fits.steps, tt)

  mat-lines : length (lines p.materials (λ j. line "mat" (pos j ∷ at p.sums j ∷ []))) ≤ 46 * p.materials
  unfolding Every text
  mat-lines =
      length-lines 46 _ _
      (λ j l. length-line "mat" _ (small (lt_trans l fits.materials), (wider tt (fits.sum j l), tt)))

  lim-lines :
      length (lines p.limits (λ i. line "lim" (pos i ∷ at p.multipliers i ∷ at p.residual_totals i ∷ [])))
      ≤ 67 * p.limits
  unfolding Every text
  lim-lines =
      length-lines 67 _ _
      (λ i l. length-line "lim" _
      (small (lt_trans l fits.limits), (wider tt (fits.multiplier i l), (fits.total i l, tt))))

  low-line : length (line "low" (p.low ∷ [])) ≤ 25
  unfolding Every text
  low-line = length-line "low" _ (fits.low, tt)

  gap-line : length (line "gap" (p.gap ∷ [])) ≤ 25
  unfolding Every text
  gap-line = length-line "gap" _ (fits.gap, tt)

  -- its text has at most 27 + 32·46 + 16·67 + 25 + 25 bytes
  length-text : p.materials ≤ 32 → p.limits ≤ 16 → length (plan_text p) ≤ 4096
  unfolding plan_text
  length-text narrow few =
      simp length-append (omega (arith, steps-line, mat-lines, lim-lines, low-line, gap-line))

-- the text of any bytes that begin with a record
pub length-plan-text : (r : List ℕ) (n m : ℕ) → ((i : ℕ) → Fits w8 (get_or r i 0)) → WholeRecord r n m
    → length (plan_text (recorded r)) ≤ 4096
unfolding recorded
length-plan-text r n m bytes s =
    length-text (recorded-fits r bytes)
    (rw (sym s.materials) s.sizes.materials)
    (rw (sym s.limits) s.sizes.limits)
