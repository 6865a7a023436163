-- T10.2: the longest record, and what is said of an answer whose buffer takes it.
use Rattle.std.specs.Prelude.{ℕ, ◌≤◌, ◌≡◌}
use Rattle.std.proofs.Common.{arith}
use Rattle.rules.specs.Problem.{Problem}
use Rattle.rules.specs.Record.{record_length, longest_record}
use Rattle.rules.specs.Answers.{Outcome, plan, refused}
use Rattle.proof_magnitudes.specs.Accepted.{Accepted}

-- T6.2: no record is longer than the longest
pub record-short : {P : Problem} {k : ℕ} → Accepted P k → record_length P.materials P.limits ≤ longest_record
unfolding record_length
record-short {P} a = omega arith

-- ---- the answer: a plan, or a refusal that is not 8
abbrev pub Not8 : Outcome → Type 0
Not8 (plan low gap) = Unit {0}
Not8 (refused r) = r.number ≡ 8 → ⊥
