-- A buffer that takes every text, and what is printed out of it (T14.8).
use Rattle.std.proofs.Math.Path.{◌≡◌, refl, ap, subst}
use Rattle.std.proofs.Common.{sym, ◌∙◌, le_trans, arith}
use Rattle.std.specs.Prelude.{List, ◌++◌, ℕ, ◌≤◌, Ok, Err}
use Rattle.std.proofs.Math.Option.{Option, none, some}
use Rattle.std.proofs.Math.ListN.{length, drop}
use Rattle.rules.specs.declared.Refusal.{Refusal}
use Rattle.rules.specs.Refusals.{Numbered, numbered, ◌otherwise◌, layout_refusal}
use Rattle.rules.specs.Output.{wrote, refused, writing, writing_of, lent_after, short_buffer, Writes}
use Rattle.rules.specs.Listing.{refusal_text, Listed}
use Rattle.rules_mps.specs.Mps.{mps_of, mps_refusal, longest_mps, printed_of, mps_printed}
use Rattle.proof_laws.specs.Outputs.{long-enough}
use Rattle.proof_magnitudes.proofs.Accepted.{accepted}
use Rattle.out_lines.specs.Lines.{Begins}
use Rattle.out_listing.specs.WholeText.{listed, listed-is}
use Rattle.out_mps_text.specs.Longest.{text-short}

module _ (s : List ℕ) where
  -- T10.7, a buffer of 9,248 bytes is never refused with 11
  pub never-11 : (room : ℕ) → longest_mps ≤ room → mps_refusal s room ≡ layout_refusal s
  unfolding mps_refusal mps_of ◌otherwise◌
  never-11 room enough = by (layout_refusal s) refl
    where
      by : (met : Option Numbered) → layout_refusal s ≡ met → met otherwise short_buffer 11 (mps_of s) room ≡ met
      by none e = long-enough 11 (mps_of s) refl (le_trans (text-short (accepted s e)) enough)
      by (some r) e = refl

  module _ {lent after : List ℕ} (enough : longest_mps ≤ length lent) where
    -- where the text was written it is what is printed
    pub text-printed : {n : ℕ} → Writes (mps_of s) (mps_refusal s (length lent)) lent after (Ok n)
        → Listed (mps_printed s) lent after n × (length (mps_printed s) ≤ longest_mps)
    unfolding mps_printed mps_of printed_of writing writing_of lent_after
    text-printed {n} w =
        by (layout_refusal s) refl (w.answered ∙ ap (writing_of (mps_of s)) (never-11 (length lent) enough))
      where
        by : (met : Option Numbered) → layout_refusal s ≡ met → wrote n ≡ writing_of (mps_of s) met
            → Listed (printed_of (mps_of s) met) lent after n × (length (printed_of (mps_of s) met) ≤ longest_mps)
        by none e is =
            let ends : n ≡ length (mps_of s) = cc in
            let short = text-short (accepted s e) in
            (listed-is (w.buffer ∙ ap (λ (k : ℕ). mps_of s ++ drop k lent) ends) ends (le_trans short enough), short)
        by (some r) e is = let z : ◌≡◌ {A = ℕ} 0 1 = cc in absurd (omega arith)

    -- where it was refused, its line is put over the buffer as lent, and is what is printed
    pub refusal-printed : {r : Refusal} {after' : List ℕ} {n : ℕ}
        → Writes (mps_of s) (mps_refusal s (length lent)) lent after (Err r)
        → Begins (refusal_text (numbered r)) after after' n
        → Listed (mps_printed s) lent after' n × (length (mps_printed s) ≤ longest_mps)
    unfolding mps_printed printed_of writing writing_of lent_after longest_mps
    refusal-printed {r} {after'} {n} w b =
        by (layout_refusal s) (w.answered ∙ ap (writing_of (mps_of s)) (never-11 (length lent) enough))
      where
        by : (met : Option Numbered) → refused (numbered r) ≡ writing_of (mps_of s) met
            → Listed (printed_of (mps_of s) met) lent after' n × (length (printed_of (mps_of s) met) ≤ longest_mps)
        by none is = let z : ◌≡◌ {A = ℕ} 0 1 = cc in absurd (omega arith)
        by (some q) is =
            let same : numbered r ≡ q = cc in
            let put = subst (λ d. Begins (refusal_text (numbered r)) d after' n) w.buffer b in
            let short = b.short in
            rw (sym same) (listed put.puts (omega (arith, short, enough)), omega (arith, short))
