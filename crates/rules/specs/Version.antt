-- TASK.md, T10.5: the version of these rules. It goes up by one when an answer, a length or the layout of a record
-- changes.
use Rattle.std.specs.Prelude.{ℕ}

abbrev pub version : ℕ
version = 3
