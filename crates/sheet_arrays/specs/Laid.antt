-- The bytes of entries.
use Rattle.std.specs.Prelude.{◌≡◌, refl, List, [], ◌∷◌, ◌++◌, ℕ, ◌*◌}
use Rattle.std.proofs.Common.{sym, append_assoc, mul-zero, mul-suc, arith, length-append}
use Rattle.std.proofs.Math.ListN.{length}
use Rattle.rules.specs.declared.Sizes.{Sizes}
use Rattle.rules.specs.Bytes.{unsigned_bytes, signed_bytes, laid}
use Rattle.rules.specs.Sheet.{header_length}
use Rattle.rules.specs.Encoder.{sizes_with}
use Rattle.bytes_write.specs.Number.{length-unsigned, length-signed}
use Rattle.sheet_arrays.specs.Runs.{Entry}

-- the keys of entries, and their values
unfoldable pub key_bytes : List Entry → List ℕ
key_bytes es = laid (λ x. unsigned_bytes 2 x.key) es

unfoldable pub value_bytes : List Entry → List ℕ
value_bytes es = laid (λ x. signed_bytes 4 x.value) es

-- the sizes of a sheet of e entries
unfoldable pub size_bytes : Sizes → ℕ → List ℕ
size_bytes z e = laid (unsigned_bytes 2) (sizes_with z e)

-- ---- laws of `laid`
laid-append : {A : Type 0} (bytes : A → List ℕ) (xs ys : List A)
    → laid bytes (xs ++ ys) ≡ laid bytes xs ++ laid bytes ys
unfolding laid
laid-append bytes [] ys = refl
laid-append bytes (x ∷ xs) ys =
    rw (laid-append bytes xs ys) (sym (append_assoc (bytes x) (laid bytes xs) (laid bytes ys)))

length-laid : {A : Type 0} (w : ℕ) (bytes : A → List ℕ) (xs : List A) → ((x : A) → length (bytes x) ≡ w)
    → length (laid bytes xs) ≡ w * length xs
unfolding laid
length-laid w bytes [] h = sym (mul-zero w)
length-laid w bytes (x ∷ xs) h = rw (length-append, h x, length-laid w bytes xs h, mul-suc) (omega arith)

pub keys-append : (xs ys : List Entry) → key_bytes (xs ++ ys) ≡ key_bytes xs ++ key_bytes ys
unfolding key_bytes
keys-append xs ys = laid-append _ xs ys

pub values-append : (xs ys : List Entry) → value_bytes (xs ++ ys) ≡ value_bytes xs ++ value_bytes ys
unfolding value_bytes
values-append xs ys = laid-append _ xs ys

pub length-keys : (es : List Entry) → length (key_bytes es) ≡ 2 * length es
unfolding key_bytes
length-keys es = length-laid 2 _ es (λ x. length-unsigned 2 x.key)

pub length-values : (es : List Entry) → length (value_bytes es) ≡ 4 * length es
unfolding value_bytes
length-values es = length-laid 4 _ es (λ x. length-signed 4 x.value)

pub length-sizes : (z : Sizes) (e : ℕ) → length (size_bytes z e) ≡ header_length
unfolding size_bytes header_length
length-sizes z e = length-laid 2 (unsigned_bytes 2) (sizes_with z e) (length-unsigned 2)
