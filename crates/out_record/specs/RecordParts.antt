-- A plan in a head and arrays, and what writing its record asks.
use Rattle.std.specs.Prelude.{List, ◌++◌, ℕ, ◌≤◌, ℤ, length}
use Rattle.rules.specs.Notation.{tabulate, at}
use Rattle.rules.specs.Bytes.{unsigned_bytes, signed_bytes}
use Rattle.rules.specs.Run.{Plan}
use Rattle.rules.specs.Record.{record_length}
use Rattle.out_layout.specs.RecordSizes.{RecordSizes}
use Rattle.out_record.specs.declared.Head.{Head}

-- the plan: n sums, m multipliers and m residual totals, at the first places of their arrays
unfoldable pub plan_in : Head → List ℤ → List ℤ → List ℤ → Plan
plan_in head sums multipliers residual_totals = record {
  materials = head.materials;
  limits = head.limits;
  steps = head.steps;
  low = head.low;
  gap = head.gap;
  sums = tabulate head.materials (at sums);
  multipliers = tabulate head.limits (at multipliers);
  residual_totals = tabulate head.limits (at residual_totals);
}

-- the bytes before the sums
unfoldable pub head_bytes : Head → List ℕ
head_bytes head =
    unsigned_bytes 2 head.materials
    ++ unsigned_bytes 2 head.limits
    ++ unsigned_bytes 2 head.steps
    ++ signed_bytes 8 head.low
    ++ signed_bytes 8 head.gap

-- the arrays have places for all figures, and the buffer has room for the record
pub record RecordRoom (head : Head) (d : List ℕ) : Type 0 where
  pub sizes : RecordSizes head.materials head.limits
  pub room : record_length head.materials head.limits ≤ length d
