-- TASK.md, T6: the bytes of a plan, and the plan that such bytes hold.
use Rattle.std.specs.Prelude.{ℕ, ◌+◌, ◌*◌, Bool, ◌&&◌, List, ◌++◌, length, ℤ, leb}
use Rattle.rules.specs.Notation.{tabulate}
use Rattle.rules.specs.Bytes.{unsigned_at, signed_at, unsigned_bytes, signed_bytes, laid}
use Rattle.rules.specs.Ranges.{largest}
use Rattle.rules.specs.Run.{Plan}

-- figures of w bytes each, signed
abbrev pub fields : ℕ → List ℤ → List ℕ
fields w zs = laid (signed_bytes w) zs

-- T6.1: n, m and k; low and gap; the sums; the multipliers and the residual totals
unfoldable pub record_of : Plan → List ℕ
record_of p =
    unsigned_bytes 2 p.materials
    ++ unsigned_bytes 2 p.limits
    ++ unsigned_bytes 2 p.steps
    ++ signed_bytes 8 p.low
    ++ signed_bytes 8 p.gap
    ++ fields 4 p.sums
    ++ fields 4 p.multipliers
    ++ fields 8 p.residual_totals

-- ---- T6.1, where a record has its fields, with n materials and m limits: each begins where the one before ends
abbrev pub limits_at : ℕ
limits_at = 2

abbrev pub steps_at : ℕ
steps_at = limits_at + 2

abbrev pub low_at : ℕ
low_at = steps_at + 2

abbrev pub gap_at : ℕ
gap_at = low_at + 8

abbrev pub sums_at : ℕ
sums_at = gap_at + 8

abbrev pub multipliers_at : ℕ → ℕ
multipliers_at n = sums_at + 4 * n

abbrev pub totals_at : ℕ → ℕ → ℕ
totals_at n m = multipliers_at n + 4 * m

-- T6.2, the length of a record
unfoldable pub record_length : ℕ → ℕ → ℕ
record_length n m = totals_at n m + 8 * m

-- T6.2, the length of the longest: as many materials and limits as a sheet may have
abbrev pub longest_record : ℕ
longest_record = record_length largest.materials largest.limits

-- the plan whose figures stand where a record has them
unfoldable pub recorded : List ℕ → Plan
recorded r =
    let n = unsigned_at 2 r 0 in
    let m = unsigned_at 2 r limits_at in
    record {
      materials = n;
      limits = m;
      steps = unsigned_at 2 r steps_at;
      low = signed_at 8 r low_at;
      gap = signed_at 8 r gap_at;
      sums = tabulate n (λ j. signed_at 4 r (sums_at + 4 * j));
      multipliers = tabulate m (λ i. signed_at 4 r (multipliers_at n + 4 * i));
      residual_totals = tabulate m (λ i. signed_at 8 r (totals_at n m + 8 * i));
    }

-- do bytes begin with all the figures of a record, of at most as many materials and limits as a sheet may have?
unfoldable pub holds_record : List ℕ → Bool
holds_record r =
    let n = unsigned_at 2 r 0 in
    let m = unsigned_at 2 r limits_at in
    leb n largest.materials && leb m largest.limits && leb (record_length n m) (length r)
