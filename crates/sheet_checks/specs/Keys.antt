-- The pass over the keys: refusal 5, and what a sheet that passed it has.
use Rattle.std.specs.Prelude.{◌≡◌, false, List, ℕ, ◌<◌}
use Rattle.std.proofs.Math.Option.{none}
use Rattle.rules.specs.Sheet.{sheet_of}
use Rattle.rules.specs.Refusals.{refuse, bad_key, key_refusal}
use Rattle.proof_laws.specs.Entries.{no_figure_for, good-key}
use Rattle.proof_laws.specs.NotRefused.{refuse-false, first-none}
use Rattle.sheet_header.specs.declared.Header.{Header}
use Rattle.sheet_header.specs.Header.{Headed}

-- a sheet that passed refusals 1 to 5, and its header
pub record Keyed (s : List ℕ) (h : Header) : Type 0 where
  pub headed : Headed s h
  pub keys : key_refusal (sheet_of s) ≡ none

-- each of its keys stands for a figure
pub figure-there : {s : List ℕ} {h : Header} → Keyed s h
    → (i : ℕ) → i < (sheet_of s).entries → no_figure_for (sheet_of s) i ≡ false
unfolding key_refusal
figure-there {s} h i l =
    let S = sheet_of s in
    let passed = first-none S.entries (λ i. refuse 5 i (bad_key S i)) h.keys i l in
    good-key S i (refuse-false 5 i (bad_key S i) passed)
