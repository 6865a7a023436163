-- TASK.md, T3.5: from figures to bytes, the sizes and then an entry for each figure that is not 0, with rising keys.
use Rattle.std.specs.Prelude.{ℕ, zero, suc, ◌+◌, Bool, not, cond, List, [], ◌∷◌, ◌++◌, map, length, ℤ}
use Rattle.rules.specs.declared.Sizes.{Sizes}
use Rattle.rules.specs.Notation.{is_zero}
use Rattle.rules.specs.Bytes.{unsigned_bytes, signed_bytes, laid}
use Rattle.rules.specs.Sheet.{Table, key_of}
use Rattle.rules.specs.Ranges.{largest}

-- T2.2, T2.4: sizes and keys of 2 bytes each, then values of 4 bytes each
unfoldable pub laid_out : List ℕ → List ℕ → List ℤ → List ℕ
laid_out sizes keys values = laid (unsigned_bytes 2) sizes ++ laid (unsigned_bytes 2) keys
    ++ laid (signed_bytes 4) values

-- the sizes of a sheet of e entries, in their order
abbrev pub sizes_with : Sizes → ℕ → List ℕ
sizes_with z e = z.shape.materials ∷ z.shape.limits ∷ e ∷ z.numerator ∷ z.scale ∷ z.steps ∷ []

-- the numbers below n that pass a test, rising
unfoldable pub picked : ℕ → (ℕ → Bool) → List ℕ
picked zero test = []
picked (suc n) test = cond (test n) (picked n test ++ (n ∷ [])) (picked n test)

-- the keys of the largest shape lie below this: 19 rows of 64 columns
abbrev pub all_keys : ℕ
all_keys = key_of (3 + largest.limits) 0

-- T3.3, T3.4: the keys of a table that have an entry, rising
unfoldable pub keys_of : Table → List ℕ
keys_of T = picked all_keys (λ key. not (is_zero (T key)))

-- T3.5, the bytes of sizes and a table that is 0 where the shape has no figure.
unfoldable pub written : Sizes → Table → List ℕ
written z T =
    let keys = keys_of T in
    laid_out (sizes_with z (length keys)) keys (map T keys)
