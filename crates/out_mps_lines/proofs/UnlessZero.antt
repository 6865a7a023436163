-- The line of a figure that may be 0.
use mathlib.Core.Path.{◌≡◌, sym, ap, ◌∙◌}
use mathlib.Core.List.{List}
use Prim.Native.Nat.{ℕ}
use lib.IntN.{ℤ, pos}
use mir.Syntax.{w64}
use mir.Val.{SFits, to_z, of_z}
use mir.Facts.{to_z-of_z}
use Rattle.rules.specs.Notation.{is_zero}
use Rattle.rules_mps.specs.Mps.{unless_zero}
use Rattle.proof_laws.specs.Entries.{nonzero}
use Rattle.out_text.specs.declared.Text.{Text as Lent}
use Rattle.out_text.specs.Grows.{Grows, grows_none, grows-as}

module _ {v : ℤ} (fits : SFits w64 v) (line : List ℕ) {t : Lent} where
  -- of 0 nothing is put
  pub left_out : of_z w64 v ≡ 0 → Grows (unless_zero v line) t t
  unfolding unless_zero is_zero
  left_out bits =
      let zero : pos 0 ≡ v = sym (ap (to_z w64) bits) ∙ to_z-of_z fits in
      grows-as (ap (λ z. unless_zero z line) zero) grows_none

  -- of any other figure its line
  pub put_in : {u : Lent} → (of_z w64 v ≡ 0 → ⊥) → Grows line t u → Grows (unless_zero v line) t u
  unfolding unless_zero
  put_in bits p = rw (nonzero v (λ e. bits (ap (of_z w64) e))) p
