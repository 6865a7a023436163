use Rattle.std.proofs.Common.{◌≡◌, sym, ◌∙◌, ℕ, suc, ◌+◌, ◌-◌, ◌/◌, ◌%◌, ◌<◌, ◌≤◌, List, length, set}
use Rattle.std.proofs.Common.{arith, append_assoc, append-nil, length-set, take_all}
use Rattle.std.proofs.lemmas.List.{take_more_set}
use borrow.Rule.Slice.PartMut.{put_mid}
use Rattle.rules.specs.Bytes.{unsigned_bytes}
use Rattle.bytes_write.specs.Written.{written, written_at}
use Rattle.bytes_write.proofs.put_unsigned.Invariants.{Turn}
use Rattle.bytes_write.proofs.put_unsigned.Goals as goal

-- one byte more
more : {w v : ℕ} {part : List ℕ} {rest i : ℕ} → Turn w v part rest i → i < w
    → Turn w v (set part i (rest % 256)) (rest / 256) (i + 1)
unfolding unsigned_bytes
more {w} {v} {part} {rest} {i} t h =
    let e : w - i ≡ suc (w - (i + 1)) = omega arith in
    record {
      within = omega arith;
      long = length-set part i (rest % 256) ∙ t.long;
      whole = rw (take_more_set part i (rest % 256) (omega (arith, t.long)), append_assoc) (rw e at t.whole);
    }

-- all bytes are written
all : {w v : ℕ} {part : List ℕ} {rest i : ℕ} → Turn w v part rest i → w ≤ i → part ≡ unsigned_bytes w v
unfolding unsigned_bytes
all {w} {v} {part} {rest} {i} t h =
    let none : w - i ≡ 0 = omega arith in
    sym (append-nil part) ∙ rw (none, take_all i part (omega (arith, t.long))) at t.whole

-- and the part of d that was lent is they
placed : (a k : ℕ) (d : List ℕ) {part bytes : List ℕ} → part ≡ bytes → k ≡ length part
    → put_mid a k d part ≡ written_at a bytes d
unfolding written written_at
placed a k d is long = rw (long, is)

pub loop-byte-preserved : goal.loop-byte-preserved
loop-byte-preserved c = more c.loop-byte.invariant (omega arith)

pub returns : goal.returns
returns c = placed _ _ _ (all c.loop-byte.invariant (omega arith)) (omega (arith, c.loop-byte.invariant.long))
