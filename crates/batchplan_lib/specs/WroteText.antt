-- What writing the free MPS text of a sheet gives, in plain numbers, as C and Rust get it.
use Rattle.std.specs.Prelude.{◌≡◌, List, ℕ, length, Result}
use Rattle.std.proofs.Common.{ap, ◌∙◌}
use Rattle.rules.specs.declared.Refusal.{Refusal}
use Rattle.rules.specs.Output.{writing, writing_of, lent_after, Writes}
use Rattle.rules_mps.specs.Mps.{mps_of, mps_refusal}
use Rattle.batchplan_lib.specs.Wrote.{pair_of}

-- Writing the text of a sheet to a buffer that is `lent` at the call and `after` at the return, with the numbers that
-- the caller gets.
pub record WroteText (sheet lent after : List ℕ) (number beside : ℕ) : Type 0 where
  -- T10.7, T14.6: the numbers are those of what the rules say of writing it
  pub numbers : record { number = number; beside = beside }
      ≡ pair_of (writing_of (mps_of sheet) (mps_refusal sheet (length lent)))
  -- T14.6: the buffer holds the text and then the rest as lent; after a refusal every byte is as lent
  pub buffer : after ≡ lent_after (mps_of sheet) lent (writing_of (mps_of sheet) (mps_refusal sheet (length lent)))

-- it is what the writer's answer gives
pub wrote_text-of : (sheet : List ℕ) {lent after : List ℕ} {result : Result ℕ Refusal} {number beside : ℕ}
    → Writes (mps_of sheet) (mps_refusal sheet (length lent)) lent after result
    → record { number = number; beside = beside } ≡ pair_of (writing result) → WroteText sheet lent after number beside
wrote_text-of sheet {lent} w pair = record {
  numbers = pair ∙ ap pair_of w.answered;
  buffer = w.buffer ∙ ap (lent_after (mps_of sheet) lent) w.answered;
}
