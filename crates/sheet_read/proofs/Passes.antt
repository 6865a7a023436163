-- What each pass hands on of the chain of refusals.
use mathlib.Core.Path.{◌≡◌, ◌∙◌}
use mathlib.Core.Bool.{false}
use mathlib.Core.List.{List}
use mathlib.Core.Option.{none}
use lib.Dec.{ltb}
use lib.ListN.{length}
use Prim.Native.Nat.{ℕ}
use Rattle.rules.specs.Sheet.{header_length}
use Rattle.rules.specs.Refusals.{◌otherwise◌, sizes_refusal, key_refusal, layout_refusal}
use Rattle.proof_laws.specs.FirstPlace.{handed-on}
use Rattle.sheet_read.specs.Reading.{figures_refusal}
use Rattle.sheet_read.proofs.Chain.{S, after-short}

module _ (s : List ℕ) (h : ltb (length s) header_length ≡ false) where
  pub after-header : sizes_refusal (S s) (length s) ≡ none
      → layout_refusal s ≡ key_refusal (S s) otherwise figures_refusal (S s)
  after-header e = after-short s h ∙ handed-on _ e

  pub after-keys : sizes_refusal (S s) (length s) ≡ none → key_refusal (S s) ≡ none
      → layout_refusal s ≡ figures_refusal (S s)
  after-keys e k = after-header e ∙ handed-on _ k
