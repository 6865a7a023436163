-- A column is below n, or it is n, or n + 1, or above that.
use Rattle.std.proofs.Common.{◌+◌, arith, lt-ltb, le-ltb, eq-eqb, ne_eqb}
use Rattle.rules.specs.Ranges.{kind_at}
use Rattle.sheet_kinds.specs.Meaning.{meaning_of}
use Rattle.proof_laws.specs.Read.{unless}
use Rattle.sheet_kinds.proofs.of_limit.Goals as goal

pub returns-then-column-n : goal.returns-then-column-n
unfolding meaning_of unless kind_at
returns-then-column-n c =
    let a = c.args in
    let n = a.shape.materials in
    rw (
      le-ltb (n + 1) a.column (omega arith),
      ne_eqb a.column n (λ e. omega arith),
      ne_eqb a.column (n + 1) (λ e. omega arith),
    )

pub returns-in-0 : goal.returns-in-0
unfolding meaning_of unless kind_at
returns-in-0 c =
    let a = c.args in
    let n = a.shape.materials in
    rw (le-ltb (n + 1) a.column (omega arith), eq-eqb a.column n (omega arith))

pub returns-in-1 : goal.returns-in-1
unfolding meaning_of unless kind_at
returns-in-1 c =
    let a = c.args in
    let n = a.shape.materials in
    rw (
      le-ltb (n + 1) a.column (omega arith),
      ne_eqb a.column n (λ e. omega arith),
      eq-eqb a.column (n + 1) (omega arith),
    )

pub returns-in_default : goal.returns-in_default
unfolding meaning_of unless
returns-in_default c = rw (lt-ltb (c.args.shape.materials + 1) c.args.column (omega arith))
