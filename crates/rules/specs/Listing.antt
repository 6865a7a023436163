-- TASK.md, T8: the listing, as batchplan prints it.
use Rattle.std.specs.Prelude.{ℕ, zero, suc, ◌+◌, ◌/◌, ◌%◌, ◌≡◌, Bool, cond, List, [], ◌∷◌, ◌++◌, length, drop, ℤ, pos}
use Rattle.std.specs.Prelude.{negsuc, leb}
use Prim.Native.Char.{code}
use Prim.Native.String as String
use Rattle.rules.specs.Notation.{at}
use Rattle.rules.specs.Sheet.{sheet_of}
use Rattle.rules.specs.Run.{Plan}
use Rattle.rules.specs.Record.{recorded, holds_record}
use Rattle.rules.specs.Refusals.{Numbered}
use Rattle.rules.specs.Answers.{Outcome, plan, refused, plan_of, answer}

-- the bytes of a text of ASCII characters
unfoldable pub text : String.String → List ℕ
text String.[] = []
text (String.◌∷◌ c s) = code c ∷ text s

-- the digits of v in decimal, at most d of them; none for 0
unfoldable pub digits : ℕ → ℕ → List ℕ
digits zero v = []
digits (suc d) zero = []
digits (suc d) (suc v) = digits d (suc v / 10) ++ ((48 + suc v % 10) ∷ [])

-- T8.3, a number in decimal: v has at most v digits; `negsuc v` is −(v + 1)
unfoldable pub decimal : ℤ → List ℕ
decimal (pos zero) = text "0"
decimal (pos (suc v)) = digits (suc v) (suc v)
decimal (negsuc v) = text "-" ++ digits (suc v) (suc v)

-- numbers, each after one space
unfoldable pub spaced : List ℤ → List ℕ
spaced [] = []
spaced (z ∷ zs) = text " " ++ decimal z ++ spaced zs

-- T8.3, a line: a word, its numbers, and a newline
unfoldable pub line : String.String → List ℤ → List ℕ
line word zs = text word ++ spaced zs ++ text "\n"

-- a line for each place below n
unfoldable pub lines : ℕ → (ℕ → List ℕ) → List ℕ
lines zero f = []
lines (suc n) f = lines n f ++ f n

-- T8.1, the lines of a plan
unfoldable pub plan_text : Plan → List ℕ
plan_text p =
    line "steps" (pos p.steps ∷ [])
    ++ lines p.materials (λ j. line "mat" (pos j ∷ at p.sums j ∷ []))
    ++ lines p.limits (λ i. line "lim" (pos i ∷ at p.multipliers i ∷ at p.residual_totals i ∷ []))
    ++ line "low" (p.low ∷ [])
    ++ line "gap" (p.gap ∷ [])

-- T8.2, the line of a refusal
unfoldable pub refusal_text : Numbered → List ℕ
refusal_text r = line "refused" (pos r.number ∷ pos r.place ∷ [])

-- the text of an answer, and of the figures of its plan
unfoldable pub text_of : Plan → Outcome → List ℕ
text_of p (plan low gap) = plan_text p
text_of p (refused r) = refusal_text r

-- The listing of the answer to a sheet's bytes and a record buffer of `room` bytes.
unfoldable pub listing : List ℕ → ℕ → List ℕ
listing s room = text_of (plan_of (sheet_of s)) (answer s room)

-- The text of an answer and its record: of a plan what the record holds, and no text where its bytes hold no record.
unfoldable pub text_from : Outcome → List ℕ → List ℕ
text_from (plan low gap) r = cond (holds_record r) (plan_text (recorded r)) []
text_from (refused r) _ = refusal_text r

-- can lent bytes take a text?
unfoldable pub fits : List ℕ → List ℕ → Bool
fits t lent = leb (length t) (length lent)

-- T10.4, what writing a text to lent bytes gives: the bytes afterwards, and the length of what was written. A text that
-- is longer than they are is not written.
pub record Listed (t lent after : List ℕ) (result : ℕ) : Type 0 where
  pub bytes-are : after ≡ cond (fits t lent) (t ++ drop (length t) lent) lent
  pub length-is : result ≡ cond (fits t lent) (length t) 0
