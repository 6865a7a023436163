-- A column from n on is no material's, and one below n is not above n + 1 either.
use Rattle.std.proofs.Common.{◌+◌, arith, le-ltb, le-leb}
use Rattle.std.proofs.lemmas.Bool.{lt-leb}
use mathlib.Core.Bool.{or-true}
use Rattle.sheet_kinds.specs.Meaning.{meaning_of}
use Rattle.proof_laws.specs.Read.{unless}
use Rattle.sheet_kinds.proofs.of_material.Goals as goal

pub returns-then-n-column : goal.returns-then-n-column
unfolding meaning_of unless
returns-then-n-column c = rw (le-leb c.args.shape.materials c.args.column (omega arith), or-true)

pub returns-else-n-column : goal.returns-else-n-column
unfolding meaning_of unless
returns-else-n-column c =
    let n = c.args.shape.materials in
    rw (le-ltb (n + 1) c.args.column (omega arith), lt-leb n c.args.column (omega arith))
