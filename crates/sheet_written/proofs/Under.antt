-- Where keys rise, each entry's value stands under its key.
use Rattle.std.specs.Prelude.{◌≡◌}
use Rattle.std.proofs.Math.Path.{refl}
use Rattle.std.proofs.Common.{◌∙◌, eq-or-lt_of_le, le_of_suc-le-suc, not-suc-le-zero, lt-suc_self, arith}
use Rattle.std.proofs.Math.Logic.{inl, inr}
use Prim.Native.Nat.{ℕ, zero, suc, ◌<◌}
use Rattle.std.proofs.Math.Nat.{le_step}
use Rattle.rules.specs.Sheet.{Sheet, value_under}
use Rattle.sheet_written.specs.Under.{RisingKeys, earlier-below, under-here, under-before}

module _ (S : Sheet) where
  pub under-key : (e : ℕ) → RisingKeys S.key e → (i : ℕ) → i < e → value_under S e (S.key i) ≡ S.value i
  unfolding RisingKeys
  under-key zero rising i l = absurd (not-suc-le-zero l)
  under-key (suc e) rising i l = elim (eq-or-lt_of_le (le_of_suc-le-suc l)) [
    | inl q ↦ rw q (under-here S e (S.key e) refl)
    | inr k ↦
        let below : S.key i < S.key e = earlier-below S.key (suc e) rising i e k (lt-suc_self e) in
        under-before S e (S.key i) (λ q. omega arith) ∙ under-key e (λ j m. rising j (le_step m)) i k
  ]
