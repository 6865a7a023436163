-- A figure of 0 is allowed; of any other its range decides.
use Rattle.std.proofs.Common.{sym, ap, ◌∙◌, not, w32, to_z, of_z, to_z-of_z}
use Rattle.rules.specs.Notation.{is_zero}
use Rattle.rules.specs.Ranges.{range_of, in_range}
use Rattle.proof_laws.specs.Entries.{nonzero}
use Rattle.sheet_arrays.specs.Tested.{outside}
use Rattle.sheet_array_checks.proofs.outside.Goals as goal

pub returns-then-figure-ne0 : goal.returns-then-figure-ne0
unfolding outside
returns-then-figure-ne0 c =
    let there = nonzero c.args.figure (λ e. c.if-figure-ne0.true (ap (of_z w32) e)) in
    let range = c.in_range.ensures ∙ ap (in_range (range_of c.args.kind)) (to_z-of_z c.ranges.figure) in
    rw there (ap not range)

pub returns-else-figure-ne0 : goal.returns-else-figure-ne0
unfolding outside is_zero
returns-else-figure-ne0 c = rw (sym (to_z-of_z c.ranges.figure) ∙ ap (to_z w32) c.if-figure-ne0.false)
