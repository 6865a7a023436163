-- Bytes that are put from their last one on.
use Prim.Native.Nat.{ℕ, suc, min, ◌+◌, ◌<◌, ◌≤◌}
use mathlib.Core.Path.{◌≡◌, refl, sym, ap, ◌∙◌}
use mathlib.Core.Logic.{inl, inr}
use mathlib.Core.List.{List, [], ◌∷◌, ◌++◌}
use native.Mathlib.Nat.{add-zero, eq-or-lt_of_le}
use native.Mathlib.Numerals.{add-one}
use native.Mathlib.Omega.{arith}
use borrow.Author.Tests.{lt-ltb, le-ltb}
use lib.ListN.{length, set, length-set}
use lib.Seq.{set_out, set_comm}
use Rattle.out_text.specs.Text.{Text, put, puts, Puts}

-- a byte put inside the list is stored; past its end it is left out
put-inside : (b : ℕ) (d : List ℕ) (at : ℕ) → at < length d
    → put b (record { bytes = d; end = at }) ≡ record { bytes = set d at b; end = suc at }
unfolding put
put-inside b d at h = simp (lt-ltb _ _ h, add-one)

put-past : (b : ℕ) (d : List ℕ) (at : ℕ) → length d ≤ at
    → put b (record { bytes = d; end = at }) ≡ record { bytes = d; end = at }
unfolding put
put-past b d at h = simp (le-ltb _ _ h)

-- and so is every byte of several
pub puts-past : (bs d : List ℕ) (at : ℕ) → length d ≤ at
    → puts bs (record { bytes = d; end = at }) ≡ record { bytes = d; end = at }
unfolding puts
puts-past [] d at h = refl
puts-past (b ∷ bs) d at h = ap (puts bs) (put-past b d at h) ∙ puts-past bs d at h

-- the last byte can be stored first
puts-last : (bs : List ℕ) (b : ℕ) (d : List ℕ) (at : ℕ) → at ≤ length d
    → (puts (bs ++ (b ∷ [])) (record { bytes = d; end = at })).bytes
    ≡ (puts bs (record { bytes = set d (at + length bs) b; end = at })).bytes
unfolding puts
puts-last [] b d at h = elim (eq-or-lt_of_le h) [
  | inl e ↦ rw (put-past b d at (omega arith), set_out d (at + 0) b (omega arith))
  | inr l ↦ rw (put-inside b d at l, add-zero)
]
puts-last (c ∷ bs) b d at h = elim (eq-or-lt_of_le h) [
  | inl e ↦
      rw (set_out d (at + length (c ∷ bs)) b (omega arith))
      (rw (puts-past (c ∷ bs ++ (b ∷ [])) d at (omega arith), puts-past (c ∷ bs) d at (omega arith)))
  | inr l ↦
      let last = suc at + length bs in
      let e : at + length (c ∷ bs) ≡ last = omega arith in
      let inside = put-inside c (set d last b) at (omega (arith, length-set d last b)) in
      ap (λ (t : Text). (puts (bs ++ (b ∷ [])) t).bytes) (put-inside c d at l)
      ∙ puts-last bs b (set d at c) (suc at) (omega (arith, length-set d at c))
      ∙ rw (e, inside, set_comm d at last c b (λ same. omega arith))
]

-- where the text then ends: after the bytes, or where the list does
puts-end : (bs d : List ℕ) (at : ℕ) → at ≤ length d
    → (puts bs (record { bytes = d; end = at })).end ≡ min (at + length bs) (length d)
unfolding puts
puts-end [] d at h = omega arith
puts-end (b ∷ bs) d at h = elim (eq-or-lt_of_le h) [
  | inl e ↦ ap (λ (t : Text). t.end) (puts-past (b ∷ bs) d at (omega arith)) ∙ omega arith
  | inr l ↦
      ap (λ (t : Text). (puts bs t).end) (put-inside b d at l)
      ∙ puts-end bs (set d at b) (suc at) (omega (arith, length-set d at b))
      ∙ omega (arith, length-set d at b)
]

-- ---- what a loop has still to store

-- putting `rest` to d gives the bytes that putting `all` to d₀ gives
pub record StillToStore (all d₀ : List ℕ) (at : ℕ) (rest d : List ℕ) : Type 0 where
  pub is : (puts rest (record { bytes = d; end = at })).bytes ≡ (puts all (record { bytes = d₀; end = at })).bytes
  pub length-is : length d ≡ length d₀

-- the last byte is stored at its place, and is no longer left
pub last_stored : {all d₀ rest d d' : List ℕ} {at place : ℕ} (b : ℕ)
    → StillToStore all d₀ at (rest ++ (b ∷ [])) d → at ≤ length d₀ → place ≡ at + length rest → d' ≡ set d place b
    → StillToStore all d₀ at rest d'
last_stored {rest = rest} {d = d} {at = at} b l h p e =
    record {
      is = rw (e, p) (sym (puts-last rest b d at (omega (arith, l.length-is))) ∙ l.is);
      length-is = rw (e, length-set) l.length-is;
    }

-- nothing is left
pub none_left : {all d₀ d : List ℕ} {at r : ℕ}
    → StillToStore all d₀ at [] d → at ≤ length d₀ → r ≡ min (at + length all) (length d₀) → Puts all d₀ at d r
unfolding puts
none_left {all} {d₀} {d} {at} l h e =
    let ends = e ∙ sym (puts-end all d₀ at h) in
    record { is = λ i. record { bytes = l.is i; end = ends i } }
