-- Bytes are the bytes of the numbers that they are read as.
use Rattle.std.specs.Prelude.{◌≡◌, Bool, true, false, List, ◌++◌, ltb, length, take, drop}
use Rattle.std.proofs.Math.Path.{refl}
use Rattle.std.proofs.Common.{ap, ◌∙◌, mul-suc, mul-zero, lt-suc_self, add-one, ltb-true, ltb-false, take-append-drop}
use Rattle.std.proofs.Common.{drop-drop, take-add, Fits}
use Prim.Native.Nat.{ℕ, zero, suc, ◌+◌, ◌*◌, ◌/◌, ◌%◌, ◌^◌, ◌<◌, ◌≤◌}
use Rattle.std.proofs.Math.Nat.{le_step}
use native.Mathlib.Omega.{arith}
use Rattle.std.proofs.Math.ListN.{get_or}
use Rattle.std.proofs.Math.Seq.{drop-cons}
use Rattle.std.specs.Int.{w8}
use Rattle.bytes_read.specs.Width.{signed_lower, signed-upper, unsigned-below}
use Rattle.rules.specs.Notation.{tabulate}
use Rattle.rules.specs.Bytes.{unsigned_at, signed_at, signed_of, unsigned_bytes, signed_bytes, laid}
use Rattle.sheet_written.specs.Lists.{tabulate-more}
use Rattle.sheet_written.specs.Laid.{laid_more}

-- the w bytes from place a on
abbrev pub piece : ℕ → ℕ → List ℕ → List ℕ
piece w a s = take w (drop a s)

-- a piece and what follows it
pub piece-rest : (w a : ℕ) (s : List ℕ) → piece w a s ++ drop (a + w) s ≡ drop a s
piece-rest w a s = rw (← (drop-drop w a s)) (take-append-drop w (drop a s))

-- numbers whose bytes follow each other are one piece
pub laid-piece : {A : Type 0} (bytes : A → List ℕ) (w a : ℕ) (s : List ℕ) (f : ℕ → A) (n : ℕ)
    → ((i : ℕ) → i < n → bytes (f i) ≡ piece w (a + w * i) s) → laid bytes (tabulate n f) ≡ piece (w * n) a s
unfolding laid tabulate
laid-piece bytes w a s f zero h = rw mul-zero
laid-piece bytes w a s f (suc n) h =
    ap (laid bytes) (tabulate-more n f)
    ∙ rw (
      laid_more bytes (tabulate n f) (f n),
      laid-piece bytes w a s f n (λ i l. h i (le_step l)),
      h n (lt-suc_self n),
      mul-suc,
      take-add (w * n) w (drop a s),
      drop-drop (w * n) a s,
    )

-- a number below 256^w has the same w bytes, signed and unsigned
signed-unsigned : (w v : ℕ) → v < 256 ^ w → signed_bytes w (signed_of w v) ≡ unsigned_bytes w v
unfolding signed_bytes
signed-unsigned w v h = by (ltb v (256 ^ w / 2)) refl
  where
    by : (b : Bool) → ltb v (256 ^ w / 2) ≡ b → signed_bytes w (signed_of w v) ≡ unsigned_bytes w v
    by true t = rw (signed_lower w v (ltb-true v (256 ^ w / 2) t))
    by false t =
        rw (signed-upper w v (ltb-false v (256 ^ w / 2) t) h)
        (ap (unsigned_bytes w) (omega arith))

-- ---- of bytes below 256
module _ (s : List ℕ) (bytes : (i : ℕ) → Fits w8 (get_or s i 0)) where
  -- the bytes of an unsigned number that is read
  pub unsigned-piece : (w o : ℕ) → o + w ≤ length s → unsigned_bytes w (unsigned_at w s o) ≡ piece w o s
  unfolding unsigned_at unsigned_bytes
  unsigned-piece zero o l = refl
  unsigned-piece (suc w) o l =
      let byte : get_or s o 0 < 256 = omega (arith, bytes o) in
      let low : (get_or s o 0 + 256 * unsigned_at w s (o + 1)) % 256 ≡ get_or s o 0 = omega arith in
      let high : (get_or s o 0 + 256 * unsigned_at w s (o + 1)) / 256 ≡ unsigned_at w s (o + 1) = omega arith in
      rw (low, high, unsigned-piece w (o + 1) (omega arith), drop-cons s o 0 (omega arith), add-one)

  -- and of a signed one
  pub signed-piece : (w o : ℕ) → o + w ≤ length s → signed_bytes w (signed_at w s o) ≡ piece w o s
  unfolding signed_at
  signed-piece w o l = signed-unsigned w (unsigned_at w s o) (unsigned-below s bytes w o) ∙ unsigned-piece w o l
