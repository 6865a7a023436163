-- The pass over the values: refusal 6, and the table while the entries are stored.
use Rattle.std.specs.Prelude.{◌≡◌, refl, List, ℕ, ◌+◌, ℤ, pos, set, Result, Ok, Err, ⊤}
use Rattle.std.proofs.Common.{sym, ◌∙◌, add-one}
use borrow.Author.Tests.{eq-eqb, ne_eqb}
use Rattle.rules.specs.declared.Refusal.{Refusal}
use Rattle.rules.specs.Sheet.{Sheet, row_of, column_of, value_under}
use Rattle.proof_laws.specs.Entries.{parts-key}
use Rattle.sheet_header.specs.declared.Header.{Header}
use Rattle.sheet_table.specs.Tabled.{InTable, place_at, tabled}
use Rattle.sheet_table.proofs.Tabled.{tabled-set}
use Rattle.sheet_checks.specs.Keys.{Keyed}

-- the keys are good, and nothing is stored yet
pub record ReadyToStore (s : List ℕ) (h : Header) (table : List ℤ) : Type 0 where
  pub keyed : Keyed s h
  pub empty : table ≡ tabled (λ _. pos 0)

-- how many entries are stored: those before the refused one, or all e
unfoldable pub stored_by : Result ⊤ Refusal → ℕ → ℕ
stored_by (Ok passed) e = e
stored_by (Err r) e = r.place

-- ---- one entry more
module _ (S : Sheet) (i : ℕ) where
  this_key : S.value i ≡ value_under S (i + 1) (S.key i)
  unfolding value_under
  this_key = rw (add-one, eq-eqb (S.key i) (S.key i) refl)

  other_key : (key : ℕ) → (key ≡ S.key i → ⊥) → value_under S i key ≡ value_under S (i + 1) key
  unfolding value_under
  other_key key o = rw (add-one, ne_eqb (S.key i) key (λ e. o (sym e)))

  -- storing entry i gives the table after it
  pub entry-stored : InTable (row_of (S.key i)) (column_of (S.key i))
      → set (tabled (value_under S i)) (place_at (row_of (S.key i)) (column_of (S.key i))) (S.value i)
      ≡ tabled (value_under S (i + 1))
  entry-stored h =
      let whole = parts-key (S.key i) in
      tabled-set h (value_under S i) (value_under S (i + 1)) (rw whole this_key)
      (λ key o. other_key key (λ e. o (e ∙ sym whole)))
