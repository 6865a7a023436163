-- The frames of the programs of the gate: a sheet's length in 2 bytes, its bytes, and `after` bytes more.
use Rattle.std.specs.Prelude.{ℕ, ◌+◌, ◌<◌, ◌≤◌, ◌≡◌, refl, Bool, true, false, cond, List, leb, length}
use Rattle.std.specs.Prelude.{Option, Some, None}
use Rattle.std.specs.declared.ops.Range.{Range}
use Rattle.std.proofs.Common.{ap, arith, leb-true, le-leb}
use Rattle.std.proofs.lemmas.Bool.{lt-leb}
use Rattle.rules.specs.Bytes.{unsigned_at}

-- from a place to a place
abbrev from : ℕ → ℕ → Range ℕ
from start end = record { start = start; end = end }

-- the sheet of the frame that begins at a place, where the whole frame lies in the input
unfoldable pub frame_at : List ℕ → ℕ → ℕ → Option (Range ℕ)
frame_at input at after =
    let start = at + 2 in
    let end = start + unsigned_at 2 input at in
    cond (leb (end + after) (length input)) (Some (from start end)) None

module _ (input : List ℕ) (at after : ℕ) where
  -- a frame that is cut short
  pub frame-cut : length input < at + 2 + unsigned_at 2 input at + after → frame_at input at after ≡ None
  unfolding frame_at
  frame-cut short = rw (lt-leb _ _ short)

  -- a whole frame
  pub frame-whole : at + 2 + unsigned_at 2 input at + after ≤ length input
      → frame_at input at after ≡ Some (from (at + 2) (at + 2 + unsigned_at 2 input at))
  unfolding frame_at
  frame-whole whole = rw (le-leb _ _ whole)

-- where the sheet of a frame lies
pub record SheetLies (input : List ℕ) (at after start end : ℕ) : Type 0 where
  pub starts : start ≡ at + 2
  pub ordered : start ≤ end
  pub inside : end + after ≤ length input

-- for a proof that has no clause of the code that finds frames: where the sheet of a frame lies
pub sheet-lies : (input : List ℕ) (at after : ℕ) {start end : ℕ} → frame_at input at after ≡ Some (from start end)
    → SheetLies input at after start end
unfolding frame_at
sheet-lies input at after {start} {end} found = by-test (leb (last + after) (length input)) refl found
  where
    last : ℕ
    last = at + 2 + unsigned_at 2 input at

    by-test : (b : Bool) → leb (last + after) (length input) ≡ b
        → cond b (Some (from (at + 2) last)) None ≡ Some (from start end) → SheetLies input at after start end
    by-test true whole e =
        let same : from start end ≡ from (at + 2) last = cc in
        let start_is : start ≡ at + 2 = ap (λ (r : Range ℕ). r.start) same in
        let end_is : end ≡ last = ap (λ (r : Range ℕ). r.end) same in
        let inside : last + after ≤ length input = leb-true _ _ whole in
        record { starts = start_is; ordered = omega arith; inside = omega arith }
    by-test false _ e = let z : ◌≡◌ {A = ℕ} 0 1 = cc in absurd (omega arith)
