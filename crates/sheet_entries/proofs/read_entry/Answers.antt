-- The key's place decides, and then the value's two tests.
use Rattle.std.proofs.Common.{◌≡◌, sym, ap, ◌∙◌, false, ℕ, ℤ, pos, w32, to_z, of_z, Bool, FitsSigned, Some}
use mir.Facts.{to_z-of_z}
use Rattle.rules.specs.declared.Shape.{Shape}
use Rattle.rules.specs.declared.Kind.{Kind}
use Rattle.rules.specs.Sheet.{row_of, column_of}
use Rattle.rules.specs.Ranges.{range_of, kind_at, in_range}
use Rattle.rules.specs.Refusals.{number_of, no_figure_at}
use Rattle.proof_laws.specs.Read.{gives, gives-says, same_gives, refused_says}
use Rattle.sheet_kinds.specs.Meaning.{meaning_of, meaning_at}
use Rattle.sheet_entries.specs.EntryRead.{entry_answered}
use Rattle.sheet_entries.proofs.Tests.{no-entry, zero-value, out_of_range, in-range}
use Rattle.sheet_entries.proofs.read_entry.Goals as goal

-- a figure stands there, of the kind that was found
module _ (shape : Shape) (key : ℕ) (kind : Kind)
    (found : meaning_of (Some kind) ≡ meaning_at shape (row_of key) (column_of key)) where
  figure-there : no_figure_at shape (row_of key) (column_of key) ≡ false
  unfolding meaning_of meaning_at
  figure-there = (gives-says 5 _ _ _ (sym found)).0

  kind-is : kind_at shape (row_of key) (column_of key) ≡ kind
  unfolding meaning_of meaning_at
  kind-is = same_gives _ _ (gives-says 5 _ _ _ (sym found)).1

  -- its range is that of the kind
  range : (value : ℤ) → FitsSigned w32 value → (b : Bool) → b ≡ in_range (range_of kind) (to_z w32 (of_z w32 value))
      → in_range (range_of (kind_at shape (row_of key) (column_of key))) value ≡ b
  range value fits b e = (λ j. in_range (range_of (kind-is j)) (sym (to_z-of_z fits) j)) ∙ sym e

pub returns-in_default : goal.returns-in_default
unfolding entry_answered number_of meaning_of meaning_at
returns-in_default c = sym (no-entry _ _ _ (refused_says 5 5 _ _ (sym c.in_default.ensures)))

-- a value of the bits 0 is 0
zero-bits : (value : ℤ) → FitsSigned w32 value → of_z w32 value ≡ 0 → value ≡ pos 0
zero-bits value fits bits = sym (to_z-of_z fits) ∙ ap (to_z w32) bits

pub returns-then-value-eq0 : goal.returns-then-value-eq0
unfolding entry_answered number_of
returns-then-value-eq0 c =
    let there = figure-there c.args.shape c.args.key _ c.in-Some.ensures in
    sym (zero-value _ _ _ there (zero-bits c.args.value c.ranges.value c.if-value-eq0.true))

pub returns-then-not-in_range : goal.returns-then-not-in_range
unfolding entry_answered number_of
returns-then-not-in_range c =
    let there = figure-there c.args.shape c.args.key _ c.in-Some.ensures in
    let r = range c.args.shape c.args.key _ c.in-Some.ensures c.args.value c.ranges.value _ c.in_range.ensures in
    sym (out_of_range _ _ _ there (λ e. c.if-value-eq0.false (ap (of_z w32) e)) (r ∙ c.if-not-in_range.true))

pub returns : goal.returns
unfolding entry_answered
returns c =
    let there = figure-there c.args.shape c.args.key _ c.in-Some.ensures in
    let r = range c.args.shape c.args.key _ c.in-Some.ensures c.args.value c.ranges.value _ c.in_range.ensures in
    ap gives (to_z-of_z c.ranges.value)
    ∙ sym (in-range _ _ _ there (λ e. c.if-value-eq0.false (ap (of_z w32) e)) (r ∙ c.if-not-in_range.false))
