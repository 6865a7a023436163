-- The frames of an input, one after the other.
use Rattle.std.specs.Prelude.{ℕ, ◌+◌, ◌≡◌, List, Option, Some, None, MatchOption, slice_range}
use Rattle.std.specs.declared.ops.Range.{Range}
use Rattle.gate_frames.specs.Frames.{frame_at}
use Rattle.gate_frames.specs.declared.Frame.{Frame}

-- the next frame of an input from place `at` on: its sheet and the bytes after it; and the place after the frame
abbrev pub NextFrame : (after : ℕ) → List ℕ → ℕ → Option (Frame after) → List ℕ → ℕ → Type 0
NextFrame after input at next input' at' = (input' ≡ input) × MatchOption next
    ((frame_at input at after ≡ None) × (at' ≡ at))
    (λ frame. (sheet : Range ℕ) × (frame_at input at after ≡ Some sheet)
    × (frame.sheet.now ≡ slice_range input sheet.start sheet.end)
    × (frame.after.now ≡ slice_range input sheet.end (sheet.end + after))
    × (at' ≡ sheet.end + after))
