-- What writing a sheet from plain arrays gives, in plain numbers, as C and Rust get it.
use Rattle.std.specs.Prelude.{◌≡◌, List, ℕ, length, Result}
use Rattle.std.proofs.Common.{ap, ◌∙◌}
use Rattle.rules.specs.declared.Refusal.{Refusal}
use Rattle.rules.specs.declared.Sizes.{Sizes}
use Rattle.rules.specs.Output.{Writing, wrote, refused, writing, writing_of, lent_after, Writes}
use Rattle.rules_arrays.specs.Arrays.{Arrays, sheet_from, write_refusal}
use Rattle.batchplan_lib.specs.declared.Pair.{Pair}

-- TASK.md, T10.6, T10.7: bytes that are written have the number 0 and their length; a refusal has its number and its
-- place
abbrev pub pair_of : Writing → Pair
pair_of (wrote n) = record { number = 0; beside = n }
pair_of (refused r) = record { number = r.number; beside = r.place }

-- Writing the sheet of these sizes and arrays to a buffer that is `lent` at the call and `after` at the return, with
-- the numbers that the caller gets.
pub record Wrote (z : Sizes) (A : Arrays) (lent after : List ℕ) (number beside : ℕ) : Type 0 where
  -- T13.4, T13.5: the numbers are those of what the rules say of writing it
  pub numbers : record { number = number; beside = beside }
      ≡ pair_of (writing_of (sheet_from z A) (write_refusal z A (length lent)))
  -- T13.6: the buffer holds the sheet and then the rest as lent; after a refusal every byte is as lent
  pub buffer : after ≡ lent_after (sheet_from z A) lent (writing_of (sheet_from z A) (write_refusal z A (length lent)))

-- it is what the writer's answer gives
pub wrote_of : (z : Sizes) (A : Arrays) {lent after : List ℕ} {result : Result ℕ Refusal} {number beside : ℕ}
    → Writes (sheet_from z A) (write_refusal z A (length lent)) lent after result
    → record { number = number; beside = beside } ≡ pair_of (writing result) → Wrote z A lent after number beside
wrote_of z A {lent} w pair = record {
  numbers = pair ∙ ap pair_of w.answered;
  buffer = w.buffer ∙ ap (lent_after (sheet_from z A) lent) w.answered;
}
