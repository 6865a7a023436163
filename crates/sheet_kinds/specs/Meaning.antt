-- What stands at a row and a column of a sheet: a figure of a kind, or none.
use Rattle.std.specs.Prelude.{ℕ, Option, Some, None}
use Rattle.rules.specs.declared.Shape.{Shape}
use Rattle.rules.specs.declared.Kind.{Kind}
use Rattle.rules.specs.Ranges.{kind_at}
use Rattle.rules.specs.Refusals.{no_figure_at}
use Rattle.proof_laws.specs.Read.{Read, gives, refused, unless}

-- what each answer stands for: a kind, or refusal 5
unfoldable pub meaning_of : Option Kind → Read Kind
meaning_of (Some kind) = gives kind
meaning_of None = refused 5

-- the kind that the row decides, unless there is no figure
unfoldable pub meaning_at : Shape → ℕ → ℕ → Read Kind
meaning_at shape row column = unless 5 (no_figure_at shape row column) (gives (kind_at shape row column))
