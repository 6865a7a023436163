-- Each turn puts the digits of one byte more.
use Rattle.std.proofs.Common.{ℕ, ◌+◌, ◌<◌, ◌≡◌, List, [], ◌∷◌, ◌++◌, length, get_or, set, take}
use Rattle.std.proofs.Common.{arith, rules, sym, ap, ◌∙◌, append_assoc, length-set}
use Rattle.std.proofs.lemmas.List.{flat_map_more, take_more, take_more_set}
use Rattle.gate_frames.specs.Shown.{hex_byte_of, hex_of}
use Rattle.gate_frames.proofs.shown.put_digits.Goals as goal

-- two bytes more, the second at the place after the first
take-two : (xs : List ℕ) (i j h l : ℕ) → j ≡ i + 1 → j < length xs
    → take (j + 1) (set (set xs i h) j l) ≡ take i xs ++ (h ∷ l ∷ [])
take-two xs i j h l next below =
    take_more_set (set xs i h) j l (omega (arith, length-set xs i h))
    ∙ ap (λ (t : List ℕ). t ++ (l ∷ [])) (ap (λ k. take k (set xs i h)) next ∙ take_more_set xs i h (omega arith))
    ∙ append_assoc (take i xs) (h ∷ []) (l ∷ [])

-- the digits of one byte more
hex-more : (bytes : List ℕ) (i : ℕ) → i < length bytes
    → hex_of (take i bytes) ++ hex_byte_of (get_or bytes i 0) ≡ hex_of (take (i + 1) bytes)
hex-more bytes i below =
    flat_map_more hex_byte_of [] (take i bytes) (get_or bytes i 0) ∙ ap hex_of (sym (take_more bytes i 0 below))

pub loop-byte-preserved : goal.loop-byte-preserved
loop-byte-preserved c =
    let bytes = c.args.bytes.now in
    let i = c.loop-byte.byte-index in (
      search rules,
      rw (c.digit.ensures, c.digit-in-loop-byte.ensures) (
          take-two c.loop-byte.digits c.loop-byte.end _ _ _ (search rules) (search rules)
          ∙ ap (λ (t : List ℕ). t ++ hex_byte_of (get_or bytes i 0)) c.loop-byte.invariant.1
          ∙ hex-more bytes i (search rules)
          ),
    )
