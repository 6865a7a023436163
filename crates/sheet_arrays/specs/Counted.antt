-- How many entries runs and limits have: one for each figure that is not 0.
use Rattle.std.specs.Prelude.{◌≡◌, Bool, true, false, not, List, ℤ, length}
use Rattle.std.proofs.Math.Path.{refl, ap}
use Rattle.std.proofs.Common.{sym, ◌∙◌, mul-suc, length-append}
use Prim.Native.Nat.{ℕ, zero, suc, ◌+◌, ◌*◌, ◌≤◌}
use Rattle.std.proofs.Math.Nat.{mul-zero}
use native.Mathlib.Omega.{arith}
use Rattle.rules.specs.Notation.{is_zero, at}
use Rattle.rules.specs.declared.Shape.{Shape}
use Rattle.rules.specs.Sheet.{key_of}
use Rattle.rules.specs.Encoder.{picked}
use Rattle.rules_arrays.specs.Arrays.{Arrays}
use Rattle.rules_arrays.specs.ReadBack.{present_in}
use Rattle.sheet_arrays.specs.Runs.{Entry, entry, entry-short, run, run-split}
use Rattle.sheet_arrays.specs.Listed.{limit_entries, limits_entries}

-- how many of the first figures are not 0
unfoldable pub counted : ℕ → (ℕ → ℤ) → ℕ
counted count f = length (picked count (λ i. not (is_zero (f i))))

-- one figure more
pub counted-more : (key count : ℕ) (f : ℕ → ℤ) → counted (suc count) f ≡ counted count f + length (entry key (f count))
unfolding counted picked entry
counted-more key count f = by (is_zero (f count)) refl
  where
    by : (b : Bool) → is_zero (f count) ≡ b
        → length (picked (suc count) (λ i. not (is_zero (f i))))
        ≡ length (picked count (λ i. not (is_zero (f i)))) + length (entry key (f count))
    by true z = rw z (omega arith)
    by false z = rw (z, length-append)

-- they are no more than the figures
pub counted-few : (count : ℕ) (f : ℕ → ℤ) → counted count f ≤ count
counted-few zero f = unfold counted picked in omega arith
counted-few (suc count) f = omega (arith, counted-more 0 count f, counted-few count f, entry-short 0 (f count))

-- a run has an entry for each
pub run_length : (first count : ℕ) (f : ℕ → ℤ) → length (run first count f) ≡ counted count f
unfolding run
run_length first zero f = unfold counted picked in refl
run_length first (suc count) f =
    rw (length-append, run_length first count f) (sym (counted-more (first + count) count f))

-- the first a figures, and then b more
pub counted-split : (a b : ℕ) (f : ℕ → ℤ) → counted (a + b) f ≡ counted a f + counted b (λ j. f (a + j))
counted-split a b f =
    sym (run_length 0 (a + b) f)
    ∙ ap length (run-split 0 a b f)
    ∙ rw (length-append, run_length 0 a f, run_length (0 + a) b _)

-- of a whole array
pub present-is : (xs : List ℤ) {n : ℕ} → length xs ≡ n → present_in xs ≡ counted n (at xs)
unfolding present_in counted
present-is xs e = rw e

-- ---- the entries of the limits
module _ (shape : Shape) (A : Arrays) where
  abbrev limits : ℕ → List Entry
  limits i = limits_entries shape.materials A.coefficients A.right_hand_sides A.starts i

  pub limits-length : (i : ℕ) → length (limits i)
      ≡ counted (shape.materials * i) (at A.coefficients) + counted i (at A.right_hand_sides)
      + counted i (at A.starts)
  unfolding limits_entries limit_entries
  limits-length zero = rw mul-zero (unfold counted picked in refl)
  limits-length (suc i) =
      let n = shape.materials in
      let a = at A.coefficients in
      let b = at A.right_hand_sides in
      let s = at A.starts in
      let row : counted (n * suc i) a ≡ counted (n * i) a + counted n (λ j. a (n * i + j)) =
      ap (λ (c : ℕ). counted c a) (mul-suc n i) ∙ counted-split (n * i) n a in
      let rhs = counted-more (key_of (3 + i) n) i b in
      let start = counted-more (key_of (3 + i) (n + 1)) i s in
      simp (length-append, run_length, limits-length i) (omega (arith, row, rhs, start))
