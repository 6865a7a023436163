-- The answer to a sheet in plain numbers, as C and Rust get it.
use Rattle.std.specs.Prelude.{◌≡◌, List, ℕ, ℤ, pos, length}
use Rattle.rules.specs.Answers.{Outcome, plan, refused, answer, buffer_after}
use Rattle.rules.specs.Margins.{Margins}
use Rattle.batchplan_lib.specs.declared.Numbers.{Numbers}

-- TASK.md, T10.3: a plan has the number 0, its low and its gap; a refusal has its number and its place; all else is 0
abbrev pub numbers_of : Outcome → Numbers
numbers_of (plan low gap) = record { number = 0; place = 0; low = low; gap = gap }
numbers_of (refused r) = record { number = r.number; place = r.place; low = pos 0; gap = pos 0 }

-- Planning a sheet into a record buffer that is `lent` at the call and `after` at the return, with the numbers that the
-- caller gets.
pub record Called (sheet lent after : List ℕ) (number place : ℕ) (low gap : ℤ) : Type 0 where
  -- T9.1, T9.2: the numbers are those of the answer by the rules
  pub numbers : record { number = number; place = place; low = low; gap = gap } ≡ numbers_of
      (answer sheet (length lent))
  -- T9.1, T9.2: the buffer holds the record and then the rest as lent; after a refusal every byte is as lent
  pub buffer : after ≡ buffer_after sheet lent
  -- T9.3 to T9.7: the plan has its margins, and after refusal 9 there is no feasible recipe
  pub margins : Margins sheet (answer sheet (length lent))
