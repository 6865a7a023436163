-- The figures of a sheet that is read decide its bytes.
use Rattle.std.specs.Prelude.{◌≡◌, refl, Bool, true, false, List, map, ℕ, ◌<◌, length, get_or}
use Rattle.std.proofs.Common.{sym, ap, ◌∙◌, subst, Fits}
use Rattle.std.proofs.Math.Option.{none}
use Rattle.std.specs.Int.{w8}
use Rattle.proof_laws.specs.Entries.{parts-key}
use Rattle.rules.specs.declared.Shape.{Shape}
use Rattle.rules.specs.declared.Sizes.{Sizes}
use Rattle.rules.specs.Sheet.{sheet_of, Table, key_of, row_of, column_of, table_of}
use Rattle.rules.specs.Encoder.{laid_out, sizes_with, all_keys, keys_of, written}
use Rattle.rules.specs.Refusals.{no_figure_at, layout_refusal}
use Rattle.sheet_written.specs.Lists.{map-cong}
use Rattle.sheet_written.specs.Support.{keys_below, keys-cong}
use Rattle.sheet_written.specs.Shaped.{Shaped}
use Rattle.sheet_written.proofs.Accepted.{accepted-single, accepted-shaped}

-- only the figures below all keys are written
written-cong : (z : Sizes) (T U : Table) → ((q : ℕ) → q < all_keys → T q ≡ U q) → written z T ≡ written z U
unfolding written
written-cong z T U h =
    let keys = keys-cong T U h in
    (λ t. laid_out (sizes_with z (length (keys t))) (keys t) (map T (keys t)))
    ∙ ap (laid_out (sizes_with z (length (keys_of U))) (keys_of U))
    (map-cong (keys_of U) T U (λ i l. h _ (keys_below U i l)))

-- tables of a shape that agree wherever it has a figure agree
same-figures : (shape : Shape) (T U : Table) → Shaped shape T → Shaped shape U
    → ((row column : ℕ) → no_figure_at shape row column ≡ false → T (key_of row column) ≡ U (key_of row column))
    → (q : ℕ) → q < all_keys → T q ≡ U q
unfolding Shaped
same-figures shape T U mine yours figures q l = by (no_figure_at shape (row_of q) (column_of q)) refl
  where
    by : (b : Bool) → no_figure_at shape (row_of q) (column_of q) ≡ b → T q ≡ U q
    by true h = mine q l h ∙ sym (yours q l h)
    by false h = rw (parts-key q) at (figures (row_of q) (column_of q) h)

-- a sheet that is read with these sizes, and with T's figures wherever the shape has one, is what is written of them
pub only-sheet : (z : Sizes) (T : Table) (s : List ℕ) → Shaped z.shape T → ((i : ℕ) → Fits w8 (get_or s i 0))
    → layout_refusal s ≡ none → (sheet_of s).sizes ≡ z
    → ((row column : ℕ) → no_figure_at z.shape row column ≡ false
    → table_of (sheet_of s) (key_of row column) ≡ T (key_of row column))
    → s ≡ written z T
only-sheet z T s shaped bytes h sizes figures =
    let U = table_of (sheet_of s) in
    let mine : Shaped z.shape U = subst (λ (y : Sizes). Shaped y.shape U) sizes (accepted-shaped s h) in
    sym (accepted-single s bytes h)
    ∙ ap (λ (y : Sizes). written y U) sizes
    ∙ written-cong z U T (same-figures z.shape U T mine shaped figures)
