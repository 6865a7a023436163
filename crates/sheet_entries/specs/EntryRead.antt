-- Reading an entry.
use Rattle.std.specs.Prelude.{ℕ, ℤ, Result, Ok, Err}
use Rattle.rules.specs.declared.Shape.{Shape}
use Rattle.rules.specs.declared.Cause.{Cause}
use Rattle.rules.specs.Sheet.{row_of, column_of}
use Rattle.rules.specs.Refusals.{number_of, no_figure_at, value_bad}
use Rattle.proof_laws.specs.Read.{Read, gives, refused, unless}

-- what each answer stands for: the value, or the number of a refusal
unfoldable pub entry_answered : Result ℤ Cause → Read ℤ
entry_answered (Ok value) = gives value
entry_answered (Err cause) = refused (number_of cause)

unfoldable pub entry_read : Shape → ℕ → ℤ → Read ℤ
entry_read shape key value =
    unless 5 (no_figure_at shape (row_of key) (column_of key)) (unless 6 (value_bad shape key value) (gives value))
