-- What is read out of any bytes fits a record.
use Rattle.std.specs.Prelude.{List, ℕ, get_or}
use Rattle.std.specs.Int.{w8, w32, w64}
use Rattle.std.proofs.Common.{Fits, SFits}
use Rattle.proof_integer.specs.Vector.{length-tabulate, at-tabulate}
use Rattle.rules.specs.Bytes.{unsigned_at, signed_at}
use Rattle.rules.specs.Record.{limits_at, steps_at, low_at, gap_at, recorded}
use Rattle.proof_magnitudes.specs.PlanFits.{PlanFits}
use Rattle.bytes_read.specs.Width.{unsigned-below, signed_below}

pub recorded-fits : (r : List ℕ) → ((i : ℕ) → Fits w8 (get_or r i 0)) → PlanFits (recorded r)
unfolding recorded signed_at
recorded-fits r bytes =
    let n = unsigned_at 2 r 0 in
    let m = unsigned_at 2 r limits_at in
    let in-4 : (o : ℕ) → SFits w32 (signed_at 4 r o) =
    λ o. record { sfits = signed_below 3 (unsigned_at 4 r o) (unsigned-below r bytes 4 o) } in
    let in-8 : (o : ℕ) → SFits w64 (signed_at 8 r o) =
    λ o. record { sfits = signed_below 7 (unsigned_at 8 r o) (unsigned-below r bytes 8 o) } in
    record {
      materials = unsigned-below r bytes 2 0;
      limits = unsigned-below r bytes 2 limits_at;
      steps = unsigned-below r bytes 2 steps_at;
      low = in-8 low_at;
      gap = in-8 gap_at;
      sums-length = length-tabulate n _;
      multipliers-length = length-tabulate m _;
      totals-length = length-tabulate m _;
      sum = λ j l. rw (at-tabulate n _ j l) (in-4 _);
      multiplier = λ i l. rw (at-tabulate m _ i l) (in-4 _);
      total = λ i l. rw (at-tabulate m _ i l) (in-8 _);
    }
