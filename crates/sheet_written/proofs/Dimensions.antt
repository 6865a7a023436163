-- A table of its shape has few enough entries, so that n and m alone decide whether the dimensions are in their ranges.
use Rattle.std.specs.Prelude.{◌≡◌, refl, Bool, true, false, ◌&&◌, ℕ, ◌≤◌, T, length}
use Rattle.std.proofs.Common.{sym, ◌∙◌, zero-le, le-leb}
use Rattle.std.specs.Float.Ieee.Fits.{and_r}
use Rattle.std.proofs.Math.Facts.{leb_yes}
use Rattle.rules.specs.declared.Shape.{Shape}
use Rattle.rules.specs.Sheet.{Table}
use Rattle.rules.specs.Ranges.{between, most_entries, dimensions_in_range}
use Rattle.rules.specs.Encoder.{keys_of}
use Rattle.sheet_written.specs.Shaped.{Shaped, few-keys}

-- what lies in a range is at most its greatest
at_most : (least greatest x : ℕ) → between least greatest x ≡ true → x ≤ greatest
unfolding between
at_most least greatest x h =
    let t : T (between least greatest x) = rw h tt in
    search (and_r, leb_yes)

-- a number of entries that the shape allows lies in its range
entries-in : (shape : Shape) (e : ℕ) → e ≤ most_entries shape → between 0 (most_entries shape) e ≡ true
unfolding between
entries-in shape e h = rw (le-leb 0 e zero-le, le-leb e (most_entries shape) h)

-- a last test counts only where those before it are passed
last_of : (a b : Bool) {c d : Bool} → (a ≡ true → b ≡ true → c ≡ d) → a && b && c ≡ a && b && d
last_of true true h = h refl refl
last_of true false h = refl
last_of false b h = refl

-- so n and m decide
pub dimensions-decide : (shape : Shape) (T : Table) → Shaped shape T
    → dimensions_in_range shape (length (keys_of T)) ≡ dimensions_in_range shape 0
unfolding dimensions_in_range
dimensions-decide shape T shaped =
    let n = shape.materials in
    let m = shape.limits in
    last_of (between 1 32 n) (between 0 16 m)
    (λ narrow few.
    let most = few-keys shape T (at_most 1 32 n narrow) (at_most 0 16 m few) shaped in
    entries-in shape (length (keys_of T)) most ∙ sym (entries-in shape 0 zero-le))
