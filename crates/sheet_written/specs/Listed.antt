-- Entries that are the support of a table, with its figures there, give the table back.
use Rattle.std.specs.Prelude.{◌≡◌, false, List, [], ◌∷◌, ◌++◌, ℕ, suc, ◌<◌, length, get_or}
use Rattle.std.proofs.Common.{sym, ap, ◌∙◌, inl, inr, eq-or-lt_of_le, le_of_suc-le-suc, not-suc-le-zero, arith}
use Rattle.std.proofs.Common.{length-append}
use Rattle.std.proofs.Math.ListN.{get_or-append}
use Rattle.std.proofs.Math.Seq.{get_or-append_seam}
use Rattle.rules.specs.Sheet.{Sheet, Table, value_under}
use Rattle.rules.specs.Encoder.{all_keys, keys_of}
use Rattle.sheet_written.specs.Picked.{picked-induction, picked-passes}
use Rattle.sheet_written.specs.Under.{under-here, under-before, under_none}
use Rattle.sheet_written.specs.Support.{present, present-not, support}

-- entries with the keys xs, and with T's figures there
pub record Listed (S : Sheet) (T : Table) (xs : List ℕ) : Type 0 where
  pub key : (i : ℕ) → i < length xs → S.key i ≡ get_or xs i 0
  pub value : (i : ℕ) → i < length xs → S.value i ≡ T (get_or xs i 0)

module _ (S : Sheet) (T : Table) where
  -- what stands under each key below n is T's figure
  abbrev Gives : ℕ → List ℕ → Type 0
  Gives n xs = (q : ℕ) → q < n → value_under S (length xs) q ≡ T q

  -- entries without the last
  but_last : (xs : List ℕ) (x : ℕ) → Listed S T (xs ++ (x ∷ [])) → Listed S T xs
  but_last xs x f = record {
    key = λ i l. f.key i (omega (arith, length-append xs (x ∷ []))) ∙ get_or-append xs (x ∷ []) 0 i l;
    value = λ i l. f.value i (omega (arith, length-append xs (x ∷ []))) ∙ ap T (get_or-append xs (x ∷ []) 0 i l);
  }

  -- one key more has an entry
  one_more : (n : ℕ) (xs : List ℕ) → (Listed S T xs → Gives n xs) → Listed S T (xs ++ (n ∷ []))
      → Gives (suc n) (xs ++ (n ∷ []))
  one_more n xs before f q l =
      let count : length (xs ++ (n ∷ [])) ≡ suc (length xs) = length-append xs (n ∷ []) ∙ omega arith in
      let last : get_or (xs ++ (n ∷ [])) (length xs) 0 ≡ n = get_or-append_seam xs n [] 0 in
      let here : S.key (length xs) ≡ n = f.key (length xs) (omega arith) ∙ last in
      let value : S.value (length xs) ≡ T n = f.value (length xs) (omega arith) ∙ ap T last in
      rw count
      (elim (eq-or-lt_of_le (le_of_suc-le-suc l)) [
        | inl e ↦ under-here S (length xs) q (here ∙ sym e) ∙ value ∙ ap T (sym e)
        | inr k ↦ under-before S (length xs) q (λ e. omega arith) ∙ before (but_last xs n f) q k
      ])

  -- one key more has none
  none_more : (n : ℕ) → present (T n) ≡ false → (Listed S T (support n T) → Gives n (support n T))
      → Listed S T (support n T) → Gives (suc n) (support n T)
  none_more n h before f q l = elim (eq-or-lt_of_le (le_of_suc-le-suc l)) [
    | inl e ↦
        under_none S (length (support n T)) q
        (λ i m k. omega (arith, f.key i m, (picked-passes (λ q. present (T q)) n i m).0))
        ∙ sym (ap T e ∙ present-not (T n) h)
    | inr k ↦ before f q k
  ]

  -- so the support gives the table back
  under-support : (room : ℕ) → Listed S T (support room T) → Gives room (support room T)
  under-support =
      picked-induction (λ q. present (T q)) (λ n xs. Listed S T xs → Gives n xs)
      (λ f q l. absurd (not-suc-le-zero l))
      (λ n h. one_more n (support n T))
      none_more

  -- and the keys of a table do
  pub under-keys : Listed S T (keys_of T) → (q : ℕ) → q < all_keys → value_under S (length (keys_of T)) q ≡ T q
  unfolding keys_of
  under-keys = under-support all_keys
