-- Each arm is a kind of row: of materials, of a limit, or none.
use Rattle.std.proofs.Common.{◌∙◌, arith}
use Rattle.rules.specs.Ranges.{kind_at}
use Rattle.sheet_kinds.specs.Meaning.{meaning_of}
use Rattle.sheet_kinds.proofs.RowKinds.{material-row, limit-row, no_row}
use Rattle.sheet_kinds.proofs.meaning_at.Goals as goal

pub returns-in-0 : goal.returns-in-0
unfolding kind_at
returns-in-0 c = c.of_material.ensures ∙ rw c.in-0.is (material-row _ 0 _ (omega arith))

pub returns-in-1 : goal.returns-in-1
unfolding kind_at
returns-in-1 c = c.of_material-in-1.ensures ∙ rw c.in-1.is (material-row _ 1 _ (omega arith))

pub returns-in-2 : goal.returns-in-2
unfolding kind_at
returns-in-2 c = c.of_material-in-2.ensures ∙ rw c.in-2.is (material-row _ 2 _ (omega arith))

pub returns-in-3-to-max : goal.returns-in-3-to-max
returns-in-3-to-max c = c.of_limit.ensures ∙ limit-row _ _ _ (omega arith) (omega arith)

pub returns-in_default : goal.returns-in_default
unfolding meaning_of
returns-in_default c = no_row _ _ _ (omega arith)
