-- TASK.md, T9: the three demands, of planning a sheet into a lent record buffer: `lent` is the buffer as it was lent,
-- `after` as it is afterwards.
use Rattle.std.specs.Prelude.{◌≡◌, List, ℕ, length, Result}
use Rattle.rules.specs.declared.PlanFigures.{PlanFigures}
use Rattle.rules.specs.declared.Refusal.{Refusal}
use Rattle.rules.specs.Answers.{outcome, answer, buffer_after}
use Rattle.rules.specs.Margins.{Margins}

pub record Promise (sheet lent after : List ℕ) (result : Result PlanFigures Refusal) : Type 0 where
  -- T9.1, T9.2: the answer is that of the rules, a plan in every digit or the one refusal with its number and place
  pub answered : outcome result ≡ answer sheet (length lent)
  -- T9.1, T9.2: the buffer holds the record and then the rest as lent; after a refusal every byte is as lent
  pub buffer : after ≡ buffer_after sheet lent
  -- T9.3 to T9.7: the plan has its margins, and after refusal 9 there is no feasible recipe
  pub margins : Margins sheet (outcome result)
