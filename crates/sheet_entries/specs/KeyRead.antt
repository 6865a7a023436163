-- Reading a key.
use Rattle.std.specs.Prelude.{Bool, ◌||◌, ℕ, ltb, Option, Some, None}
use Rattle.rules.specs.declared.Shape.{Shape}
use Rattle.rules.specs.Sheet.{row_of, column_of}
use Rattle.rules.specs.Refusals.{no_figure_at}
use Rattle.proof_laws.specs.Read.{Read, gives, refused, unless}

-- what each answer stands for: the key, or refusal 5
unfoldable pub key_answered : Option ℕ → Read ℕ
key_answered (Some key) = gives key
key_answered None = refused 5

-- is a key bad, where `floor` is the least that it may be?
abbrev pub key_bad : Shape → ℕ → ℕ → Bool
key_bad shape floor key = no_figure_at shape (row_of key) (column_of key) || ltb key floor

unfoldable pub key_read : Shape → ℕ → ℕ → Read ℕ
key_read shape floor key = unless 5 (key_bad shape floor key) (gives key)
