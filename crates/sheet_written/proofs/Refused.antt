-- What is written is refused by the reader as the table is.
use Rattle.std.proofs.Math.Path.{◌≡◌, refl, ap}
use Rattle.std.proofs.Common.{sym, ap₂, ◌∙◌, arith, le-ltb, eq-eqb}
use Rattle.std.proofs.Math.Bool.{Bool, true, false, not}
use Rattle.std.specs.Prelude.{◌||◌, List, length, get_or}
use Rattle.std.proofs.Math.Option.{none}
use Prim.Native.Nat.{ℕ, ◌<◌, ◌≤◌}
use Rattle.std.proofs.lemmas.Bool.{not-false}
use Rattle.std.specs.Int.Signed.{lt_z}
use Rattle.proof_laws.specs.FirstPlace.{first_cong, refuse-no}
use Rattle.proof_laws.specs.NotRefused.{refuse-false}
use Rattle.proof_laws.specs.Sizes.{dimensions}
use Rattle.rules.specs.declared.Sizes.{Sizes}
use Rattle.proof_laws.specs.Below.{any-cong}
use Rattle.rules.specs.Notation.{any_below}
use Rattle.rules.specs.Sheet.{header_length, sheet_length, Sheet, sheet_of, Table, key_of, row_of, column_of, table_of}
use Rattle.rules.specs.Ranges.{dimensions_in_range, parameters_in_range}
use Rattle.rules.specs.Encoder.{all_keys, keys_of, written}
use Rattle.rules.specs.Refusals.{refuse, ◌otherwise◌, first_below, no_figure_at, value_bad, crossed, bound_refusal}
use Rattle.rules.specs.Refusals.{bad_key, bad_value, sizes_refusal, key_refusal, value_refusal, layout_refusal}
use Rattle.rules_arrays.specs.Arrays.{figure_bad, table_refusal}
use Rattle.rules_arrays.specs.ReadBack.{unplaced}
use Rattle.sheet_written.specs.Support.{present, absent-zero, keys_below, keys-present}
use Rattle.sheet_written.specs.ReadBack.{Fit, ReadsTable}
use Rattle.sheet_written.proofs.ReadBack.{read-alone, length-written}
use Rattle.sheet_written.specs.Shaped.{Shaped}
use Rattle.sheet_written.proofs.Dimensions.{dimensions-decide}
use Rattle.sheet_written.specs.Unplaced.{unplaced-none, unplaced-other, unplaced-places, unplaced-six}
use Rattle.sheet_written.specs.Unplaced.{without, unplaced-each, last-counts}
use Rattle.sheet_written.specs.AtKeys.{first-none-below, any-keys}

-- ---- bytes of the right length that are read as a table of its shape
module _ (z : Sizes) (T : Table) (r : List ℕ) (reads : ReadsTable z T r)
    (long : length r ≡ sheet_length (sheet_of r).entries) (shaped : Shaped z.shape T) where
  abbrev S : Sheet
  S = sheet_of r

  -- 2: n and m decide
  shape-decides : unplaced (refuse 2 0 (not (dimensions_in_range S.sizes.shape S.entries)))
      ≡ refuse 2 0 (not (dimensions_in_range z.shape 0))
  shape-decides =
      unplaced-other 2 0 _ refl
      ∙ (λ t. refuse 2 0 (not (dimensions_in_range (reads.sizes t).shape (reads.entries t))))
      ∙ ap (λ b. refuse 2 0 (not b)) (dimensions-decide z.shape T shaped)

  -- 4: p, D and k decide
  parameters-decide : unplaced (refuse 4 0 (not (parameters_in_range S.sizes)))
      ≡ refuse 4 0 (not (parameters_in_range z))
  parameters-decide = unplaced-other 4 0 _ refl ∙ (λ t. refuse 4 0 (not (parameters_in_range (reads.sizes t))))

  -- an entry's key is one of the table
  of-table : (i : ℕ) → i < S.entries → i < length (keys_of T)
  of-table i l = rw reads.entries at l

  -- 5: each key has a figure, and is above the one before
  good : (i : ℕ) → i < S.entries → bad_key S i ≡ false
  unfolding bad_key Shaped
  good i l =
      let m = of-table i l in
      let q = reads.listed.key i m in
      (λ t. no_figure_at (reads.sizes t).shape (row_of (q t)) (column_of (q t)) || reads.rising i l t)
      ∙ ap (λ b. b || false) (by (get_or (keys_of T) i 0) (keys_below T i m) (keys-present T i m) _ refl)
    where
      by : (q : ℕ) → q < all_keys → present (T q) ≡ true → (b : Bool)
          → no_figure_at z.shape (row_of q) (column_of q) ≡ b
          → no_figure_at z.shape (row_of q) (column_of q) ≡ false
      by q l p true h =
          let gone : present (T q) ≡ false = ap present (shaped q l h) ∙ absent-zero in
          let z : ◌≡◌ {A = ℕ} 0 1 = cc in
          absurd (omega arith)
      by q l p false h = h

  -- 6: the figures at the keys decide
  value-decides : (i : ℕ) → i < S.entries
      → bad_value S i ≡ figure_bad z.shape (get_or (keys_of T) i 0) (T (get_or (keys_of T) i 0))
  unfolding bad_value figure_bad
  value-decides i l =
      let m = of-table i l in
      (λ t. value_bad (reads.sizes t).shape (reads.listed.key i m t) (reads.listed.value i m t))
      ∙ rw (keys-present T i m)

  -- so the figures of the table do
  values-decide : unplaced (value_refusal S) ≡ refuse 6 0 (any_below all_keys (λ q. figure_bad z.shape q (T q)))
  unfolding value_refusal
  values-decide =
      let bad : ℕ → Bool = λ q. figure_bad z.shape q (T q) in
      unplaced-six S.entries (bad_value S)
      ∙ ap (refuse 6 0)
      (any-cong S.entries _ _ value-decides
      ∙ (λ t. any_below (reads.entries t) (λ i. bad (get_or (keys_of T) i 0)))
      ∙ any-keys T bad (λ q h. unfold figure_bad in rw h))

  -- 7: the bounds decide
  bounds-decide : z.shape.materials ≤ 32
      → unplaced (bound_refusal S.sizes.shape (table_of S)) ≡ bound_refusal z.shape T
  unfolding bound_refusal crossed
  bounds-decide narrow =
      unplaced-places S.sizes.shape.materials 7 (crossed (table_of S)) refl
      ∙ (λ t. first_below (reads.sizes t).shape.materials (λ j. refuse 7 j (crossed (table_of S) j)))
      ∙ first_cong z.shape.materials _ _
      (λ j l. ap (refuse 7 j)
      (ap₂ lt_z (reads.values (key_of 2 j) (omega arith)) (reads.values (key_of 1 j) (omega arith))))

  -- all of them; 1 and 3 are not given to bytes of the right length
  refuses-alike : unplaced (layout_refusal r) ≡ table_refusal z T
  unfolding layout_refusal sizes_refusal key_refusal table_refusal header_length
  refuses-alike =
      let one = refuse-no 1 0 (le-ltb (length r) header_length (omega arith)) in
      let three = refuse-no 3 0 (ap not (eq-eqb (length r) (sheet_length S.entries) long)) in
      let five = first-none-below S.entries _ (λ i l. refuse-no 5 i (good i l)) in
      let last = unplaced (bound_refusal S.sizes.shape (table_of S)) in
      ap unplaced (without _ _ _ _ one three five)
      ∙ unplaced-each _ _ _ _
      ∙ (λ t. shape-decides t otherwise parameters-decide t otherwise values-decide t otherwise last)
      ∙ last-counts _ _ _
      (λ h. bounds-decide (dimensions z.shape 0 (not-false _ (refuse-false 2 0 _ h))).narrow)

-- ---- what is written
-- the reader refuses what is written as the table is refused
pub written-refused : (z : Sizes) (T : Table) → Fit z T → Shaped z.shape T
    → unplaced (layout_refusal (written z T)) ≡ table_refusal z T
written-refused z T fit shaped =
    let reads = read-alone fit in
    let long = length-written z T ∙ ap sheet_length (sym reads.entries) in
    refuses-alike z T (written z T) reads long shaped

-- what is written of a table that is not refused is read
pub written-accepted : (z : Sizes) (T : Table) → Fit z T → Shaped z.shape T → table_refusal z T ≡ none
    → layout_refusal (written z T) ≡ none
written-accepted z T fit shaped h = unplaced-none _ (written-refused z T fit shaped ∙ h)
