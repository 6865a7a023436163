-- TASK.md, T13.5, T13.6 and T14.6: what a function that writes a sheet or a text answers, and what the lent buffer
-- holds afterwards.
use Rattle.std.specs.Prelude.{ℕ, ◌≡◌, List, ◌++◌, length, drop, ltb, Result, Ok, Err}
use Rattle.std.proofs.Math.Option.{Option, none, some}
use Rattle.rules.specs.declared.Refusal.{Refusal}
use Rattle.rules.specs.Refusals.{Numbered, numbered, refuse}

-- T13.5, T14.6, the answer: how many bytes were written, or a refusal.
pub data Writing : Type 0 where
  wrote : ℕ → Writing
  refused : Numbered → Writing

-- what each case of the code's answer stands for
unfoldable pub writing : Result ℕ Refusal → Writing
writing (Ok length) = wrote length
writing (Err r) = refused (numbered r)

-- a refusal where there is one, else the length of the bytes
unfoldable pub writing_of : List ℕ → Option Numbered → Writing
writing_of bytes none = wrote (length bytes)
writing_of bytes (some r) = refused r

-- T13.6, T14.6, the lent buffer afterwards: where bytes were written, they and then the rest as lent; else as lent
unfoldable pub lent_after : List ℕ → List ℕ → Writing → List ℕ
lent_after bytes lent (wrote n) = bytes ++ drop n lent
lent_after bytes lent (refused r) = lent

-- the refusal of a buffer of `room` bytes that is shorter than the bytes; the place is their length
unfoldable pub short_buffer : ℕ → List ℕ → ℕ → Option Numbered
short_buffer number bytes room = refuse number (length bytes) (ltb room (length bytes))

-- T13.5, T13.6, T14.6: writing bytes, unless a refusal is given, to a buffer that is `lent` before, `after` afterwards.
pub record Writes (bytes : List ℕ) (refusal : Option Numbered) (lent after : List ℕ)
    (result : Result ℕ Refusal) : Type 0 where
  pub answered : writing result ≡ writing_of bytes refusal
  pub buffer : after ≡ lent_after bytes lent (writing result)
