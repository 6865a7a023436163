-- A text that grows in lent bytes: the bytes, and the place where the text ends.
use Rattle.std.specs.Prelude.{ℕ, ◌+◌, cond, ◌≡◌, List, [], ◌∷◌, length, set, ltb}

pub record Text : Type 0 where
  pub bytes : List ℕ
  pub end : ℕ

-- one byte at the end of the text; none where the bytes are full
unfoldable pub put : ℕ → Text → Text
put b t = cond (ltb t.end (length t.bytes)) (record { bytes = set t.bytes t.end b; end = t.end + 1 }) t

-- bytes at the end of the text, one after the other
unfoldable pub puts : List ℕ → Text → Text
puts [] t = t
puts (b ∷ bs) t = puts bs (put b t)

-- The function was lent `before` with the text's end at `at`, and left `after` with the end at `result`:
-- it has put `bs`.
pub record Puts (bs before : List ℕ) (at : ℕ) (after : List ℕ) (result : ℕ) : Type 0 where
  pub is : record { bytes = after; end = result } ≡ puts bs (record { bytes = before; end = at })
