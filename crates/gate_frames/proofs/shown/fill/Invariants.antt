-- The places so far hold what they are to hold.
use Rattle.std.proofs.Common.{◌≡◌, ℕ, ◌+◌, ◌*◌, ◌<◌, ◌%◌, slice_index}
use Rattle.gate_frames.proofs.shown.fill.Given as goal

abbrev pub invariant-loop-i : goal.invariant-loop-i
invariant-loop-i l = (k : ℕ) → k < l.i → slice_index l.buffer k ≡ (7 * k + 3) % 256
