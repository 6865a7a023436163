-- What stands under a key of a sheet that has been read, by its entries; and entries whose keys rise.
use Rattle.std.specs.Prelude.{◌≡◌, Bool, cond, eqb, ℤ, pos}
use Rattle.std.proofs.Math.Path.{refl}
use Rattle.std.proofs.Common.{◌∙◌, eq-or-lt_of_le, le_of_suc-le-suc, not-suc-le-zero, lt-suc_self, arith, eq-eqb}
use Rattle.std.proofs.Common.{ne_eqb}
use Rattle.std.proofs.Math.Bool.{true, false}
use Rattle.std.proofs.Math.Logic.{inl, inr}
use Prim.Native.Nat.{ℕ, zero, suc, ◌<◌}
use Rattle.std.proofs.Math.Nat.{le_step}
use Rattle.rules.specs.Sheet.{Sheet, value_under}

-- the first e keys rise
unfoldable pub RisingKeys : (ℕ → ℕ) → ℕ → Type 0
RisingKeys key e = (i : ℕ) → suc i < e → key i < key (suc i)

-- so an earlier key is below a later one
pub earlier-below : (key : ℕ → ℕ) (e : ℕ) → RisingKeys key e → (i j : ℕ) → i < j → j < e → key i < key j
unfolding RisingKeys
earlier-below key e rising i zero l m = absurd (not-suc-le-zero l)
earlier-below key e rising i (suc j) l m = elim (eq-or-lt_of_le (le_of_suc-le-suc l)) [
  | inl q ↦ rw q (rising j m)
  | inr k ↦
      let before : key i < key j = earlier-below key e rising i j k (omega arith) in
      let step : key j < key (suc j) = rising j m in
      omega arith
]

module _ (S : Sheet) where
  -- ---- one entry more
  -- it has the key
  pub under-here : (e q : ℕ) → S.key e ≡ q → value_under S (suc e) q ≡ S.value e
  unfolding value_under
  under-here e q h = rw (eq-eqb (S.key e) q h)

  -- it has another key
  pub under-before : (e q : ℕ) → (S.key e ≡ q → ⊥) → value_under S (suc e) q ≡ value_under S e q
  unfolding value_under
  under-before e q h = rw (ne_eqb (S.key e) q h)

  -- ---- e entries
  -- none has the key
  pub under_none : (e q : ℕ) → ((i : ℕ) → i < e → S.key i ≡ q → ⊥) → value_under S e q ≡ pos 0
  unfolding value_under
  under_none zero q h = refl
  under_none (suc e) q h = under-before e q (h e (lt-suc_self e)) ∙ under_none e q (λ i l. h i (le_step l))

  -- what holds of 0 and of each value holds of what stands under any key
  pub under_all : (Q : ℤ → Type 0) → Q (pos 0) → (e : ℕ) → ((i : ℕ) → i < e → Q (S.value i))
      → (q : ℕ) → Q (value_under S e q)
  unfolding value_under
  under_all Q absent zero h q = absent
  under_all Q absent (suc e) h q = by (eqb (S.key e) q) (under_all Q absent e (λ i l. h i (le_step l)) q)
    where
      by : (b : Bool) → Q (value_under S e q) → Q (cond b (S.value e) (value_under S e q))
      by true before = h e (lt-suc_self e)
      by false before = before
