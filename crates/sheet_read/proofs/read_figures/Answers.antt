-- The table begins empty and ends with the sheet's, unless a value or a least amount is refused; then it is unpacked.
use Rattle.std.proofs.Common.{◌≡◌, ◌≤◌, ℕ, ℤ, List, length, arith, le-ltb, sym, ap, ◌∙◌}
use Rattle.std.proofs.lemmas.Result.{err_from_is_err_and}
use Rattle.std.proofs.Math.Path.{transport}
use Rattle.std.proofs.Math.Option.{Option, none}
use Rattle.rules.specs.Sheet.{Sheet, header_length, sheet_of, value_under, table_of, problem_from, problem}
use Rattle.rules.specs.Refusals.{Numbered, refusal_of, value_refusal, bound_refusal, layout_refusal}
use Rattle.proof_laws.specs.Agreeing.{Agree}
use Rattle.proof_laws.specs.FirstPlace.{given, handed-on}
use Rattle.proof_magnitudes.specs.Accepted.{Accepted, accepted-same}
use Rattle.proof_magnitudes.proofs.Accepted.{accepted}
use Rattle.sheet_table.specs.Tabled.{tabled, table_in, tabled-zero}
use Rattle.sheet_table.proofs.Tabled.{table-agrees}
use Rattle.sheet_figures.specs.declared.Figures.{Figures}
use Rattle.sheet_figures.specs.Figures.{figures_of, coefficients_over, figures-same, coefficients-same}
use Rattle.sheet_header.specs.declared.Header.{Header}
use Rattle.sheet_header.specs.Header.{entries-is, keys-begin, sheet-in-range}
use Rattle.sheet_checks.specs.Keys.{Keyed}
use Rattle.sheet_checks.specs.Bounds.{crossed_refusal, crossed-is}
use Rattle.sheet_store.specs.Values.{stored_by}
use Rattle.sheet_read.specs.Reading.{figures_refusal}
use Rattle.sheet_read.proofs.Passes.{after-keys}
use Rattle.sheet_read.proofs.Outcome.{turned-back, read_whole}
use Rattle.sheet_read.proofs.read_figures.Goals as goal

-- ---- a sheet whose keys are good
module _ {s : List ℕ} {h : Header} (keyed : Keyed s h) where
  abbrev S : Sheet
  S = sheet_of s

  -- where the values are good, the table holds all entries
  table-is : (table : List ℤ) → table ≡ tabled (value_under S h.entries) → table ≡ tabled (table_of S)
  table-is table t = t ∙ ap (λ k. tabled (value_under S k)) (entries-is keyed.headed.header)

  -- refusals 6 and 7, in the definition's terms
  bounds-are : {met : Option Numbered} (table : List ℤ) → table ≡ tabled (table_of S) → none ≡ value_refusal S
      → met ≡ crossed_refusal h.sizes.shape.materials table → met ≡ figures_refusal S
  unfolding figures_refusal
  bounds-are table t values checked =
      let ranges = sheet-in-range keyed.headed in
      let is = keyed.headed.header.is in
      checked
      ∙ (λ j. crossed_refusal (is j).sizes.shape.materials (t j))
      ∙ crossed-is S.sizes.shape (table_of S) (record { narrow = ranges.narrow })
      ∙ sym (handed-on (bound_refusal _ _) (sym values))

  -- where nothing is refused, the figures are accepted, and the table has them
  same : Agree (problem_from S.sizes (table_in (tabled (table_of S)))) (problem S)
  same =
      let ranges = sheet-in-range keyed.headed in
      table-agrees S.sizes (table_of S) ranges.narrow ranges.few

  ranged : figures_refusal S ≡ none → Accepted (problem S) S.sizes.steps
  ranged passed =
      let headed = keyed.headed in
      let long : header_length ≤ length s = omega (arith, headed.long, keys-begin headed.header) in
      let followed : layout_refusal s ≡ none = after-keys s (le-ltb _ _ long) headed.passed keyed.keys ∙ passed in
      accepted s followed

  ranged-in-table : (table : List ℤ) → table ≡ tabled (table_of S) → figures_refusal S ≡ none
      → Accepted (problem_from h.sizes (table_in table)) h.sizes.steps
  ranged-in-table table e passed =
      let t = sym e in
      let is = keyed.headed.header.is in
      transport (λ j. let g = sym is j in Accepted (problem_from g.sizes (table_in (t j))) g.sizes.steps)
      (accepted-same same (ranged passed))

  figures-are : (table : List ℤ) (figures : Figures) → table ≡ tabled (table_of S)
      → figures ≡ figures_of (problem_from h.sizes (table_in table)) h.sizes.steps
      → figures ≡ figures_of (problem S) S.sizes.steps
  figures-are table figures t e =
      let is = keyed.headed.header.is in
      e
      ∙ (λ j. let g = is j in figures_of (problem_from g.sizes (table_in (t j))) g.sizes.steps)
      ∙ figures-same same S.sizes.steps

  coefficients-are : (table lent after : List ℤ) → table ≡ tabled (table_of S)
      → after ≡ coefficients_over lent (problem_from h.sizes (table_in table))
      → after ≡ coefficients_over lent (problem S)
  coefficients-are table lent after t e =
      let is = keyed.headed.header.is in
      e
      ∙ (λ j. let g = is j in coefficients_over lent (problem_from g.sizes (table_in (t j))))
      ∙ coefficients-same same lent

pub store_entries-requires : goal.store_entries-requires
store_entries-requires c = record { keyed = c.requires; empty = sym tabled-zero }

pub returns-in_err-store_entries : goal.returns-in_err-store_entries
unfolding refusal_of figures_refusal
returns-in_err-store_entries c =
    let refused = err_from_is_err_and c.from_residual.result c.from_residual.ensures.1 in
    rw (refused.1, refused.2)
    (turned-back (sheet_of c.args.s.now) _ (given _ (sym c.in_err-store_entries.ensures.result_value)))

pub returns-in_err-check_bounds : goal.returns-in_err-check_bounds
unfolding refusal_of stored_by
returns-in_err-check_bounds c =
    let refused =
    err_from_is_err_and c.from_residual-in_err-check_bounds.result c.from_residual-in_err-check_bounds.ensures.1 in
    let stored = c.in_ok-store_entries.ensures in
    let t = table-is c.requires c.store_entries.new.table stored.table_after in
    let bounds = bounds-are c.requires _ t stored.result_value c.in_err-check_bounds.ensures in
    rw (refused.1, refused.2) (turned-back (sheet_of c.args.s.now) _ (sym bounds))

pub unpack-requires : goal.unpack-requires
unfolding refusal_of stored_by
unpack-requires c =
    let stored = c.in_ok-store_entries.ensures in
    let t = table-is c.requires c.store_entries.new.table stored.table_after in
    let bounds = bounds-are c.requires _ t stored.result_value c.in_ok-check_bounds.ensures in
    ranged-in-table c.requires c.store_entries.new.table t (sym bounds)

pub returns : goal.returns
unfolding refusal_of stored_by
returns c =
    let stored = c.in_ok-store_entries.ensures in
    let t = table-is c.requires c.store_entries.new.table stored.table_after in
    let bounds = bounds-are c.requires _ t stored.result_value c.in_ok-check_bounds.ensures in
    let unpacked = c.unpack in
    read_whole (sheet_of c.args.s.now) (sym bounds)
    (figures-are c.requires c.store_entries.new.table unpacked.result t unpacked.ensures.value)
    (coefficients-are c.requires c.store_entries.new.table c.args.coefficient.now unpacked.new.coefficient t
    unpacked.ensures.coefficient_after)
