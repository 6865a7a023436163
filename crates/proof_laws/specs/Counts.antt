-- What the refusal of a run of c steps says of longer runs (T5.8).
use Rattle.std.specs.Prelude.{◌≡◌, ℕ, ◌<◌}
use Rattle.std.proofs.Math.Option.{none, some}
use Rattle.rules.specs.Problem.{Problem}
use Rattle.rules.specs.Refusals.{Numbered}
use Rattle.rules.specs.Answers.{look_refusal, refusal_at, step_refusal, run_refusal}
use Rattle.proof_laws.specs.FirstPlace.{given, first_found}

-- for T5.8, and for M-111, which looks at every count: the refusal of the closing look of c steps is that of every
-- longer run, in which step c meets it
pub closing-refusal-stays : (P : Problem) (c n : ℕ) {r : Numbered} → c < n
    → step_refusal P c ≡ none → look_refusal P c ≡ some r → run_refusal P n ≡ some r
unfolding run_refusal step_refusal refusal_at
closing-refusal-stays P c n l before here = given _ (first_found (refusal_at P) n l before (given _ here))
