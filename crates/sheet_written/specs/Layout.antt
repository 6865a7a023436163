-- Sizes, keys and values laid out: their length, that they are read whatever follows, and that bytes are the layout of
-- what is read.
use Rattle.std.specs.Prelude.{◌≡◌, refl, ℕ, ◌+◌, ◌*◌, ◌<◌, ℤ, length, get_or, drop}
use Rattle.std.proofs.Math.Path.{ap}
use Rattle.std.proofs.Common.{◌∙◌, arith, length-append, length-drop, take_all, Fits, SFits}
use mathlib.Core.List.{List, [], ◌∷◌, ◌++◌, append_assoc, append-nil, flatten}
use Rattle.std.proofs.Math.Nat.{zero-add}
use Rattle.std.specs.Int.{w8, w32}
use Rattle.bytes_write.specs.Number.{length-unsigned, length-signed, length_fields}
use Rattle.bytes_write.specs.ReadBack.{From, after}
use Rattle.bytes_write.proofs.ReadBack.{unsigned-read, signed-read}
use Rattle.rules.specs.Notation.{tabulate}
use Rattle.rules.specs.Bytes.{unsigned_at, signed_at, unsigned_bytes, signed_bytes, laid}
use Rattle.rules.specs.Encoder.{laid_out}
use Rattle.sheet_written.specs.Laid.{laid_from}
use Rattle.sheet_written.specs.Pieces.{piece, piece-rest, laid-piece, unsigned-piece, signed-piece}

-- numbers of two bytes
abbrev shorts : List ℕ → List ℕ
shorts xs = laid (unsigned_bytes 2) xs

-- integers of four bytes
abbrev longs : List ℤ → List ℕ
longs xs = laid (signed_bytes 4) xs

-- each number has two bytes
length-shorts : (xs : List ℕ) → length (shorts xs) ≡ 2 * length xs
unfolding laid
length-shorts [] = refl
length-shorts (x ∷ xs) = rw (length-append, length-unsigned, length-shorts xs) (omega arith)

-- two bytes for each size, and six for each entry
pub length-laid-out : (sizes keys : List ℕ) (values : List ℤ) → length values ≡ length keys
    → length (laid_out sizes keys values) ≡ 2 * length sizes + 6 * length keys
unfolding laid_out
length-laid-out sizes keys values same =
    rw (length-append, length-append, length-shorts sizes, length-shorts keys, length_fields 4 values, same)
    (omega arith)

-- ---- what is laid out is read, whatever follows it
module _ (sizes keys : List ℕ) (values : List ℤ) (rest : List ℕ) where
  -- the bytes
  abbrev r : List ℕ
  r = laid_out sizes keys values ++ rest

  -- where each part begins
  sizes-at : From r 0 (shorts sizes ∷ shorts keys ∷ longs values ∷ rest ∷ [])
  unfolding flatten laid_out
  sizes-at = record { is = simp (append_assoc, append-nil) }

  keys-at : From r (2 * length sizes) (shorts keys ∷ longs values ∷ rest ∷ [])
  keys-at = rw zero-add at (after sizes-at (length-shorts sizes))

  values-at : From r (2 * length sizes + 2 * length keys) (longs values ∷ rest ∷ [])
  values-at = after keys-at (length-shorts keys)

  -- what is read there
  pub size-read : (i : ℕ) → i < length sizes → get_or sizes i 0 < 65536 → unsigned_at 2 r (2 * i) ≡ get_or sizes i 0
  size-read i l h =
      let here = laid_from (unsigned_bytes 2) 2 (length-unsigned 2) 0 sizes i sizes-at l in
      rw zero-add at (unsigned-read 2 (get_or sizes i 0) here h)

  pub key-read : (i : ℕ) → i < length keys → get_or keys i 0 < 65536
      → unsigned_at 2 r (2 * length sizes + 2 * i) ≡ get_or keys i 0
  key-read i l h =
      unsigned-read 2 (get_or keys i 0) (laid_from (unsigned_bytes 2) 2 (length-unsigned 2) 0 keys i keys-at l) h

  pub value_read : (d : ℤ) (i : ℕ) → i < length values → SFits w32 (get_or values i d)
      → signed_at 4 r (2 * length sizes + 2 * length keys + 4 * i) ≡ get_or values i d
  value_read d i l h =
      let here = laid_from (signed_bytes 4) 4 (length-signed 4) d values i values-at l in
      signed-read 4 (get_or values i d) here h.sfits

-- ---- bytes are the layout of what is read: c sizes, e keys and e values
module _ (s : List ℕ) (bytes : (i : ℕ) → Fits w8 (get_or s i 0)) (c e : ℕ) (long : length s ≡ 2 * c + 6 * e) where
  -- what is read
  abbrev sizes_in : List ℕ
  sizes_in = tabulate c (λ i. unsigned_at 2 s (2 * i))

  abbrev keys_in : List ℕ
  keys_in = tabulate e (λ i. unsigned_at 2 s (2 * c + 2 * i))

  abbrev values_in : List ℤ
  values_in = tabulate e (λ i. signed_at 4 s (2 * c + 2 * e + 4 * i))

  -- the sizes are a piece of the bytes, and so are the keys
  sizes-piece : shorts sizes_in ≡ piece (2 * c) 0 s
  sizes-piece =
      laid-piece (unsigned_bytes 2) 2 0 s _ c
      (λ i l. rw zero-add (unsigned-piece s bytes 2 (2 * i) (omega arith)))

  keys-piece : shorts keys_in ≡ piece (2 * e) (2 * c) s
  keys-piece =
      laid-piece (unsigned_bytes 2) 2 (2 * c) s _ e (λ i l. unsigned-piece s bytes 2 (2 * c + 2 * i) (omega arith))

  -- and together they are the bytes
  pub laid-out-back : laid_out sizes_in keys_in values_in ≡ s
  unfolding laid_out
  laid-out-back =
      append_assoc (shorts sizes_in) (shorts keys_in) (longs values_in)
      ∙ (λ t. sizes-piece t ++ (keys-piece t ++ values-piece t))
      ∙ ap (λ (r : List ℕ). piece (2 * c) 0 s ++ r) (piece-rest (2 * e) (2 * c) s)
      ∙ rw zero-add at (piece-rest (2 * c) 0 s)
    where
      -- the values are one too
      values-piece : longs values_in ≡ drop (2 * c + 2 * e) s
      values-piece =
          laid-piece (signed_bytes 4) 4 (2 * c + 2 * e) s _ e
          (λ i l. signed-piece s bytes 4 (2 * c + 2 * e + 4 * i) (omega arith))
          ∙ take_all (4 * e) (drop (2 * c + 2 * e) s) (omega (arith, length-drop (2 * c + 2 * e) s))
