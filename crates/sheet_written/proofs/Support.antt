-- Keys that rise, with values that are not 0, are the support of their table.
use Rattle.std.specs.Prelude.{◌≡◌, refl, true, false, [], ◌∷◌, ◌++◌, ℕ, zero, suc, ◌<◌}
use Rattle.std.proofs.Common.{sym, ap, ◌∙◌, lt-suc_self, arith}
use Rattle.std.proofs.Math.Nat.{le_step}
use Rattle.proof_laws.specs.Below.{below_suc}
use Rattle.rules.specs.Notation.{tabulate}
use Rattle.rules.specs.Sheet.{Sheet, value_under}
use Rattle.rules.specs.Encoder.{picked}
use Rattle.sheet_written.specs.Lists.{tabulate-more}
use Rattle.sheet_written.specs.Picked.{picked-cong, picked-skip, picked_last}
use Rattle.sheet_written.specs.Under.{RisingKeys, earlier-below, under-here, under-before, under_none}
use Rattle.sheet_written.specs.Support.{present, absent-zero, support}

-- keys that rise below `room`, with values that are not 0, are the support of their table
pub support-keys : (S : Sheet) (e room : ℕ) → RisingKeys S.key e → ((i : ℕ) → i < e → S.key i < room)
    → ((i : ℕ) → i < e → present (S.value i) ≡ true) → support room (value_under S e) ≡ tabulate e S.key
unfolding RisingKeys tabulate value_under picked
support-keys S zero room rising low values = picked-skip 0 room _ (omega arith) (λ q a b. absent-zero)
support-keys S (suc e) room rising low values =
    let k = S.key e in
    let below : (i : ℕ) → i < e → S.key i < k =
    λ i l. earlier-below S.key (suc e) rising i e l (lt-suc_self e) in
    let last : (q : ℕ) → k < q → q < room → present (value_under S (suc e) q) ≡ false =
    λ q a b.
    let other : (i : ℕ) → i < suc e → S.key i ≡ q → ⊥ =
    below_suc e (λ i. S.key i ≡ q → ⊥) (λ i l h. omega (arith, below i l)) (λ h. omega arith) in
    ap present (under_none S (suc e) q other) ∙ absent-zero in
    let here : present (value_under S (suc e) k) ≡ true =
    ap present (under-here S e k refl) ∙ values e (lt-suc_self e) in
    let before : support k (value_under S (suc e)) ≡ support k (value_under S e) =
    picked-cong k _ _ (λ q l. ap present (under-before S e q (λ h. omega arith))) in
    let rest = support-keys S e k (λ i l. rising i (le_step l)) below (λ i l. values i (le_step l)) in
    picked_last k room _ (low e (lt-suc_self e)) here last
    ∙ ap (λ xs. xs ++ (k ∷ [])) (before ∙ rest)
    ∙ sym (tabulate-more e S.key)
