-- Each test that passes hands on to the next.
use Rattle.std.proofs.Common.{sym, ap, ◌∙◌, Err}
use Rattle.rules.specs.Refusals.{number_of, numbered, refusal_of}
use Rattle.rules_arrays.specs.Arrays.{Arrays}
use Rattle.sheet_arrays.specs.Lengths.{lengths-match}
use Rattle.sheet_array_checks.specs.Checks.{shape-refused, small, lengths-refused, parameters-refused}
use Rattle.sheet_array_checks.specs.Checks.{figures-refused, amounts-decide, amounts_refusal}
use Rattle.sheet_array_checks.proofs.check_arrays.Goals as goal

pub returns-then-not-dimensions_in_range : goal.returns-then-not-dimensions_in_range
unfolding refusal_of numbered number_of
returns-then-not-dimensions_in_range c =
    ap (λ r. refusal_of (Err r)) c.at.ensures
    ∙ sym (shape-refused _ _ (sym c.if-not-dimensions_in_range.ensures))

pub lengths_match-requires : goal.lengths_match-requires
lengths_match-requires c =
    small c.args.sizes c.args.arrays.now (sym c.if-not-dimensions_in_range.ensures)

-- ---- the lengths
pub returns-then-not-lengths_match : goal.returns-then-not-lengths_match
unfolding refusal_of numbered number_of
returns-then-not-lengths_match c =
    ap (λ r. refusal_of (Err r)) c.at-then-not-lengths_match.ensures
    ∙ sym (lengths-refused _ _ (sym c.if-not-dimensions_in_range.ensures) (sym c.if-not-lengths_match.ensures))

-- ---- p, D and k
pub returns-then-not-parameters_in_range : goal.returns-then-not-parameters_in_range
unfolding refusal_of numbered number_of
returns-then-not-parameters_in_range c =
    ap (λ r. refusal_of (Err r)) c.at-then-not-parameters_in_range.ensures
    ∙ sym (parameters-refused _ _ (sym c.if-not-dimensions_in_range.ensures) (sym c.if-not-lengths_match.ensures)
    (sym c.if-not-parameters_in_range.ensures))

-- ---- the figures, and then the bounds
pub returns-then-figures_outside : goal.returns-then-figures_outside
unfolding refusal_of numbered number_of
returns-then-figures_outside c =
    ap (λ r. refusal_of (Err r)) c.at-then-figures_outside.ensures
    ∙ sym (figures-refused _ _ (sym c.if-not-dimensions_in_range.ensures) (sym c.if-not-lengths_match.ensures)
    (sym c.if-not-parameters_in_range.ensures) (sym c.if-figures_outside.ensures))

pub check_amounts-requires : goal.check_amounts-requires
check_amounts-requires c =
    let lengths = lengths-match _ _ (sym c.if-not-lengths_match.ensures) in
    let same = lengths.least_amounts ∙ sym lengths.most_amounts in
    record { as_many = rw (← c.arrays.view_is) at same }

pub returns : goal.returns
returns c =
    c.check_amounts.ensures
    ∙ ap (λ (A : Arrays). amounts_refusal A.least_amounts A.most_amounts) c.arrays.view_is
    ∙ sym (amounts-decide _ _ (sym c.if-not-dimensions_in_range.ensures) (sym c.if-not-lengths_match.ensures)
    (sym c.if-not-parameters_in_range.ensures) (sym c.if-figures_outside.ensures))
