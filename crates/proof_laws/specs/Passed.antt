-- A sheet that is read (T7.5): the tests that it passed, each over the whole sheet.
use Rattle.std.specs.Prelude.{◌≡◌, false, not, List, ℕ, ◌<◌, T, length}
use Rattle.std.proofs.Math.Option.{none}
use Rattle.std.proofs.lemmas.Bool.{not-false}
use Rattle.std.proofs.Common.{eqb-true}
use Rattle.std.proofs.Math.Facts.{T_not-not}
use Rattle.rules.specs.Sheet.{Sheet, sheet_length, sheet_of, table_of}
use Rattle.rules.specs.Ranges.{dimensions_in_range, parameters_in_range}
use Rattle.rules.specs.Refusals.{bad_key, bad_value, crossed}
use Rattle.rules.specs.Refusals.{sizes_refusal, key_refusal, value_refusal, bound_refusal, layout_refusal}
use Rattle.proof_laws.specs.NotRefused.{otherwise-none, refuse-none, refuse-false, first-none}

pub record Passed (S : Sheet) (bytes : ℕ) : Type 0 where
  pub dimensions : T (dimensions_in_range S.sizes.shape S.entries)
  pub long : bytes ≡ sheet_length S.entries
  pub parameters : T (parameters_in_range S.sizes)
  pub keys : (i : ℕ) → i < S.entries → bad_key S i ≡ false
  pub values : (i : ℕ) → i < S.entries → T (not (bad_value S i))
  pub bounds : (j : ℕ) → j < S.sizes.shape.materials → T (not (crossed (table_of S) j))

-- the chain of refusals 1 to 7 (T7.3), link by link
pub passed : (s : List ℕ) → layout_refusal s ≡ none → Passed (sheet_of s) (length s)
unfolding layout_refusal sizes_refusal key_refusal value_refusal bound_refusal
passed s h =
    let (short, h) = otherwise-none _ _ h in
    let (sizes, h) = otherwise-none _ _ h in
    let (keys, h) = otherwise-none _ _ h in
    let (values, bounds) = otherwise-none _ _ h in
    let (dimensions, sizes) = otherwise-none _ _ sizes in
    let (long, parameters) = otherwise-none _ _ sizes in
    record {
      dimensions = search (T_not-not, refuse-none);
      long = eqb-true _ _ (not-false _ (refuse-false 3 0 _ long));
      parameters = search (T_not-not, refuse-none);
      keys = λ i l. refuse-false _ _ _ (first-none _ _ keys i l);
      values = λ i l. refuse-none _ _ _ (first-none _ _ values i l);
      bounds = λ j l. refuse-none _ _ _ (first-none _ _ bounds j l);
    }
