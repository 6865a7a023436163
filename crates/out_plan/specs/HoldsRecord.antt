-- When bytes hold a record, and when they do not.
use Rattle.std.specs.Prelude.{ℕ, ◌<◌, ◌≡◌, true, false, cond, List, [], length, get_or}
use Rattle.std.proofs.Math.Path.{sym}
use Rattle.std.proofs.Common.{arith, Fits}
use Rattle.std.proofs.Math.Bool.{and-false}
use borrow.Author.Tests.{le-leb, lt-leb}
use Rattle.std.specs.Int.{w8}
use Rattle.rules.specs.Bytes.{unsigned_at}
use Rattle.rules.specs.Record.{limits_at, sums_at, record_length, recorded, holds_record}
use Rattle.rules.specs.Listing.{plan_text}
use Rattle.out_text.specs.Text.{Puts}
use Rattle.out_text.specs.Growing.{puts_none}
use Rattle.out_lines.specs.Lines.{Begins}
use Rattle.out_plan.specs.RecordText.{WholeRecord}
use Rattle.out_plan.specs.TextLength.{length-plan-text}

module _ (r : List ℕ) where
  -- more materials than a sheet may have
  pub many-materials : 32 < unsigned_at 2 r 0 → holds_record r ≡ false
  unfolding holds_record
  many-materials h = simp (lt-leb (unsigned_at 2 r 0) 32 h)

  -- more limits than a sheet may have
  pub many-limits : 16 < unsigned_at 2 r limits_at → holds_record r ≡ false
  unfolding holds_record
  many-limits h = simp (lt-leb (unsigned_at 2 r limits_at) 16 h, and-false)

  -- bytes that end before the record does
  pub cut_short : length r < record_length (unsigned_at 2 r 0) (unsigned_at 2 r limits_at) → holds_record r ≡ false
  unfolding holds_record
  cut_short h =
      simp (lt-leb (record_length (unsigned_at 2 r 0) (unsigned_at 2 r limits_at)) (length r) h, and-false)

  -- or before the sums
  pub no-sums : length r < sums_at → holds_record r ≡ false
  unfolding record_length
  no-sums h = cut_short (omega arith)

  -- a whole record
  all_there : (n m : ℕ) → WholeRecord r n m → holds_record r ≡ true
  unfolding holds_record
  all_there n m s =
      let whole = le-leb (record_length n m) (length r) s.whole in
      rw (sym s.materials, sym s.limits)
      (simp (le-leb n 32 s.sizes.materials, le-leb m 16 s.sizes.limits, whole))

  -- no text is put where the bytes hold no record
  pub no_text : {d : List ℕ} → holds_record r ≡ false → Begins (cond (holds_record r) (plan_text (recorded r)) []) d d 0
  no_text none = rw none (record { puts = puts_none; short = omega arith })

  -- the text of a record that is there
  pub record-text : {d d' : List ℕ} {n m end : ℕ} → ((i : ℕ) → Fits w8 (get_or r i 0)) → WholeRecord r n m
      → Puts (plan_text (recorded r)) d 0 d' end → Begins (cond (holds_record r) (plan_text (recorded r)) []) d d' end
  record-text {n = n} {m = m} bytes s p =
      rw (all_there n m s) (record { puts = p; short = length-plan-text r n m bytes s })
