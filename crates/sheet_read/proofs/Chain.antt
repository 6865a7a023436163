-- The chain of refusals 1 to 7, and what is left of it after refusal 1. `Passes` has what the passes hand on of it.
use mathlib.Core.Path.{◌≡◌}
use mathlib.Core.Bool.{true, false}
use mathlib.Core.List.{List}
use mathlib.Core.Option.{some}
use lib.Dec.{ltb}
use lib.ListN.{length}
use Prim.Native.Nat.{ℕ}
use Rattle.rules.specs.Sheet.{Sheet, header_length, sheet_of}
use Rattle.rules.specs.Refusals.{◌otherwise◌, sizes_refusal, key_refusal, layout_refusal}
use Rattle.proof_laws.specs.FirstPlace.{refuse-yes, refuse-no, given, handed-on}
use Rattle.sheet_read.specs.Reading.{figures_refusal}

module _ (s : List ℕ) where
  abbrev pub S : Sheet
  S = sheet_of s

  pub short : ltb (length s) header_length ≡ true → layout_refusal s ≡ some (record { number = 1; place = 0 })
  unfolding layout_refusal
  short h = given _ (refuse-yes 1 0 h)

  module _ (h : ltb (length s) header_length ≡ false) where
    pub after-short : layout_refusal s ≡ sizes_refusal S (length s) otherwise key_refusal S otherwise figures_refusal S
    unfolding layout_refusal figures_refusal
    after-short = handed-on _ (refuse-no 1 0 h)
