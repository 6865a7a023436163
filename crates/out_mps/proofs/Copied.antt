-- A text that is put into room that takes every text, and from there to the lent buffer where that can take it.
use Rattle.std.specs.Prelude.{◌≡◌, ℕ, ◌<◌, ◌≤◌, List, ◌++◌, length, take, drop, Ok, Err}
use Rattle.std.proofs.Common.{sym, ◌∙◌}
use Rattle.rules.specs.declared.Cause.TheVariants.{Text}
use Rattle.rules.specs.declared.Refusal.{Refusal}
use Rattle.rules.specs.Refusals.{numbered, number_of}
use Rattle.rules.specs.Output.{short_buffer, Writes}
use Rattle.proof_laws.specs.Outputs.{writes-refused, writes-all, too_short, long-enough}
use Rattle.out_text.specs.Text.{Puts}
use Rattle.out_text.specs.Growing.{front-put}

-- the text is put, and the room takes it
module _ {t d d' : List ℕ} {end : ℕ} (put : Puts t d 0 d' end) (short : length t ≤ length d) where
  -- the text ends where its length says
  pub ends : end ≡ length t
  ends = (front-put put short).1

  -- so a lent buffer that is too short is refused
  pub refused-copy : {lent : List ℕ} {r : Refusal} → r ≡ record { place = end; cause = Text } → length lent < end
      → Writes t (short_buffer 11 t (length lent)) lent lent (Err r)
  unfolding numbered number_of
  refused-copy is less = rw is (writes-refused _ (too_short 11 t (sym ends) less))

  -- and any other gets the text
  pub full-copy : {lent after : List ℕ} → end ≤ length lent → after ≡ take end d' ++ drop end lent
      → Writes t (short_buffer 11 t (length lent)) lent after (Ok end)
  full-copy {lent} enough copied =
      let (is, length-is) = front-put put short in
      writes-all (long-enough 11 t (sym length-is) enough) length-is
      (copied ∙ (λ k. is k ++ drop (length-is k) lent))
