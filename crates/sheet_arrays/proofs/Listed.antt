-- The entries of the arrays, row by row, are those of their table.
use Rattle.std.specs.Prelude.{◌≡◌, true, ℤ, pos}
use Rattle.std.proofs.Math.Path.{refl, sym, ap, ap₂}
use Rattle.std.proofs.Common.{◌∙◌, le_refl}
use mathlib.Core.List.{List, [], ◌++◌, append-nil, append_assoc}
use Prim.Native.Nat.{ℕ, zero, suc, ◌+◌, ◌-◌, ◌*◌, ◌<◌, ◌≤◌}
use native.Mathlib.Omega.{arith}
use Rattle.rules.specs.Notation.{at}
use Rattle.rules.specs.declared.Shape.{Shape}
use Rattle.rules.specs.Sheet.{Table, key_of, row_of, column_of}
use Rattle.rules.specs.Encoder.{all_keys}
use Rattle.rules.specs.Refusals.{no_figure_at}
use Rattle.rules_arrays.specs.Arrays.{Arrays, gathered}
use Rattle.proof_laws.specs.Entries.{parts-key, past-materials, past-starts, past-limits}
use Rattle.sheet_arrays.specs.Runs.{Entry, entry, run, run-cong, run_none, run-split}
use Rattle.sheet_arrays.specs.Gathered.{gathered_none}
use Rattle.sheet_arrays.specs.Gathered.{cost-at, least_at, most-at, coefficient-at, rhs-at, start-at}
use Rattle.sheet_arrays.specs.Listed.{material_entries, limit_entries, limits_entries, entries_of}

-- ---- a row of a table that has figures in the first w columns alone
row-run : (T : Table) (row w : ℕ) (f : ℕ → ℤ) → w ≤ 64
    → ((j : ℕ) → j < w → T (key_of row j) ≡ f j)
    → ((j : ℕ) → w ≤ j → j < 64 → T (key_of row j) ≡ pos 0)
    → run 0 (suc row * 64) T ≡ run 0 (row * 64) T ++ run (key_of row 0) w f
row-run T row w f narrow there none =
    let whole : suc row * 64 ≡ row * 64 + (w + (64 - w)) = omega arith in
    let key : (j : ℕ) → row * 64 + j ≡ key_of row j = λ j. omega arith in
    let first : 0 + row * 64 ≡ key_of row 0 = omega arith in
    let figures : run (key_of row 0) w (λ j. T (row * 64 + j)) ≡ run (key_of row 0) w f =
    run-cong (key_of row 0) w _ _ (λ j l. ap T (key j) ∙ there j l) in
    let rest : run (key_of row 0 + w) (64 - w) (λ j. T (row * 64 + (w + j))) ≡ [] =
    run_none (key_of row 0 + w) (64 - w) _
    (λ j l. let e : row * 64 + (w + j) ≡ key_of row (w + j) = omega arith in
    ap T e ∙ none (w + j) (omega arith) (omega arith)) in
    ap (λ (c : ℕ). run 0 c T) whole
    ∙ run-split 0 (row * 64) (w + (64 - w)) T
    ∙ ap (λ (x : ℕ). run 0 (row * 64) T ++ run x (w + (64 - w)) (λ j. T (row * 64 + j))) first
    ∙ ap (λ (xs : List Entry). run 0 (row * 64) T ++ xs)
    (run-split (key_of row 0) w (64 - w) (λ j. T (row * 64 + j)) ∙ ap₂ ◌++◌ figures rest ∙ append-nil _)

-- ---- the table of arrays, of a shape in its range
module _ (shape : Shape) (A : Arrays) (narrow : shape.materials ≤ 32) (few : shape.limits ≤ 16) where
  abbrev n : ℕ
  n = shape.materials

  abbrev T : Table
  T = gathered shape A

  abbrev materials : List Entry
  materials = material_entries n A.costs A.least_amounts A.most_amounts

  abbrev limit : ℕ → List Entry
  limit i = limit_entries n A.coefficients A.right_hand_sides A.starts i

  abbrev limits : ℕ → List Entry
  limits i = limits_entries n A.coefficients A.right_hand_sides A.starts i

  -- past the figures of a row there is none
  past : (row w : ℕ) → ((j : ℕ) → w ≤ j → no_figure_at shape row j ≡ true)
      → (j : ℕ) → w ≤ j → j < 64 → T (key_of row j) ≡ pos 0
  past row w none j a b = gathered_none shape A row j b (none j a)

  material-row : (row : ℕ) (f : ℕ → ℤ) → row ≤ 2 → ((j : ℕ) → j < n → T (key_of row j) ≡ f j)
      → run 0 (suc row * 64) T ≡ run 0 (row * 64) T ++ run (key_of row 0) n f
  material-row row f r there =
      row-run T row n f (omega arith) there (past row _ (λ j a. past-materials shape row j r a))

  no_row : run 0 (0 * 64) T ≡ []
  unfolding run
  no_row = refl

  materials-listed : run 0 (3 * 64) T ≡ materials
  unfolding material_entries
  materials-listed =
      material-row 2 _ (omega arith) (most-at shape A narrow)
      ∙ ap (λ (xs : List Entry). xs ++ run (key_of 2 0) n (at A.most_amounts))
      (material-row 1 _ (omega arith) (least_at shape A narrow)
      ∙ ap (λ (xs : List Entry). xs ++ run (key_of 1 0) n (at A.least_amounts))
      (material-row 0 _ (omega arith) (cost-at shape A narrow)
      ∙ ap (λ (xs : List Entry). xs ++ run (key_of 0 0) n (at A.costs)) no_row))

  module _ (i : ℕ) (l : i < shape.limits) where
    -- the last two columns of a limit's row
    rhs-entry : entry (key_of (3 + i) 0 + n) (T (key_of (3 + i) n))
        ≡ entry (key_of (3 + i) n) (at A.right_hand_sides i)
    rhs-entry = let key : key_of (3 + i) 0 + n ≡ key_of (3 + i) n = omega arith in
        λ k. entry (key k) (rhs-at shape A narrow i l k)

    start-entry : entry (key_of (3 + i) 0 + suc n) (T (key_of (3 + i) (suc n)))
        ≡ entry (key_of (3 + i) (n + 1)) (at A.starts i)
    start-entry =
        let key : key_of (3 + i) 0 + suc n ≡ key_of (3 + i) (n + 1) = omega arith in
        let column : suc n ≡ n + 1 = omega arith in
        (λ k. entry (key k) (T (key_of (3 + i) (column k))))
        ∙ ap (entry (key_of (3 + i) (n + 1))) (start-at shape A narrow i l)

    figures : run (key_of (3 + i) 0) (n + 2) (λ j. T (key_of (3 + i) j)) ≡ limit i
    unfolding limit_entries run
    figures =
        let width : n + 2 ≡ suc (suc n) = omega arith in
        let coefficients =
        run-cong (key_of (3 + i) 0) n (λ j. T (key_of (3 + i) j)) _ (coefficient-at shape A narrow i l) in
        ap (λ (c : ℕ). run (key_of (3 + i) 0) c (λ j. T (key_of (3 + i) j))) width
        ∙ (λ k. (coefficients k ++ rhs-entry k) ++ start-entry k)

    limit-row : run 0 (suc (3 + i) * 64) T ≡ run 0 ((3 + i) * 64) T ++ limit i
    limit-row =
        row-run T (3 + i) (n + 2) (λ j. T (key_of (3 + i) j)) (omega arith) (λ j k. refl)
        (past (3 + i) _ (λ j a. past-starts shape (3 + i) j (omega arith)))
        ∙ ap (λ (xs : List Entry). run 0 ((3 + i) * 64) T ++ xs) figures

  limits-listed : (i : ℕ) → i ≤ shape.limits → run 0 ((3 + i) * 64) T ≡ materials ++ limits i
  unfolding limits_entries
  limits-listed zero l = materials-listed ∙ sym (append-nil materials)
  limits-listed (suc i) l =
      let row : 3 + suc i ≡ suc (3 + i) = omega arith in
      ap (λ (r : ℕ). run 0 (r * 64) T) row
      ∙ limit-row i l
      ∙ ap (λ (xs : List Entry). xs ++ limit i) (limits-listed i (omega arith))
      ∙ append_assoc materials _ _

  -- the entries of the table are those of the arrays
  pub entries-listed : run 0 all_keys T ≡ entries_of shape A
  unfolding entries_of
  entries-listed =
      let used = (3 + shape.limits) * 64 in
      let whole : all_keys ≡ used + (all_keys - used) = omega arith in
      let rest : run (0 + used) (all_keys - used) (λ j. T (used + j)) ≡ [] =
      run_none (0 + used) (all_keys - used) _ (λ j l.
      sym (ap T (parts-key (used + j)))
      ∙ gathered_none shape A (row_of (used + j)) (column_of (used + j)) (omega arith)
      (past-limits shape (row_of (used + j)) (column_of (used + j)) (omega arith))) in
      ap (λ (c : ℕ). run 0 c T) whole
      ∙ run-split 0 used (all_keys - used) T
      ∙ ap₂ ◌++◌ (limits-listed shape.limits (le_refl _)) rest
      ∙ append-nil _
