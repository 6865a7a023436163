-- How writing bytes to a lent buffer ends: with a refusal and the buffer as lent, or with the bytes and then the rest
-- as lent.
use Rattle.std.specs.Prelude.{◌≡◌, List, ◌++◌, ℕ, ◌<◌, ◌≤◌, length, Ok, Err}
use Rattle.std.proofs.Math.Path.{refl, sym, ap}
use Rattle.std.proofs.Common.{◌∙◌}
use Rattle.std.proofs.Math.Option.{Option, none, some}
use borrow.Author.Tests.{lt-ltb, le-ltb}
use Rattle.std.proofs.Math.ListN.{drop}
use Rattle.rules.specs.declared.Refusal.{Refusal}
use Rattle.rules.specs.Refusals.{Numbered, numbered}
use Rattle.rules.specs.Output.{wrote, writing, writing_of, lent_after, short_buffer, Writes}
use Rattle.proof_laws.specs.FirstPlace.{refuse-yes, refuse-no}

module _ {bytes : List ℕ} {met : Option Numbered} {lent : List ℕ} where
  pub writes-refused : (r : Refusal) → met ≡ some (numbered r) → Writes bytes met lent lent (Err r)
  unfolding writing writing_of lent_after
  writes-refused r m = record { answered = sym (ap (writing_of bytes) m); buffer = refl }

  pub writes-all : {after : List ℕ} {n : ℕ} → met ≡ none → n ≡ length bytes → after ≡ bytes ++ drop (length bytes) lent
      → Writes bytes met lent after (Ok n)
  unfolding writing writing_of lent_after
  writes-all m e b = record {
    answered = ap wrote e ∙ sym (ap (writing_of bytes) m);
    buffer = b ∙ ap (λ (n : ℕ). bytes ++ drop n lent) (sym e);
  }

-- ---- a buffer that is too short for w bytes, and one that is not
module _ (number : ℕ) (bytes : List ℕ) {room w : ℕ} (wanted : length bytes ≡ w) where
  pub too_short : room < w → short_buffer number bytes room ≡ some (record { number = number; place = w })
  unfolding short_buffer
  too_short l = rw (wanted, lt-ltb room w l) (refuse-yes number w refl)

  pub long-enough : w ≤ room → short_buffer number bytes room ≡ none
  unfolding short_buffer
  long-enough l = rw (wanted, le-ltb room w l) (refuse-no number w refl)
