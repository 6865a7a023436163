-- A line of the listing that has one figure of the record.
use Rattle.std.specs.Prelude.{ℕ, List, [], ◌∷◌, pos}
use Rattle.rules.specs.Bytes.{unsigned_at}
use Rattle.rules.specs.Record.{steps_at}
use Rattle.rules.specs.Listing.{line}

-- the line of the step count
unfoldable pub steps_line : List ℕ → List ℕ
steps_line r = line "steps" (pos (unsigned_at 2 r steps_at) ∷ [])
