-- A loop that writes the first figures of an array, in w bytes each.
use mathlib.Core.Path.{◌≡◌, refl, sym, ap, ◌∙◌}
use mathlib.Core.List.{List, ◌++◌, append_assoc, append-nil}
use Prim.Native.Nat.{ℕ, zero, suc, ◌+◌, ◌*◌, ◌≤◌, ◌<◌}
use native.Mathlib.Numerals.{add-one}
use native.Mathlib.Omega.{arith}
use lib.IntN.{ℤ}
use lib.ListN.{length}
use Rattle.rules.specs.Notation.{tabulate, at}
use Rattle.rules.specs.Bytes.{signed_bytes, laid}
use Rattle.rules.specs.Record.{fields}
use Rattle.bytes_write.specs.Written.{written, written_at, written_none, Filled, fill}
use Rattle.bytes_write.specs.Number.{length-signed}
use Rattle.out_fields.specs.Fields.{first_fields, length-first}

-- one figure more
one_more : (w n : ℕ) (f : ℕ → ℤ) → fields w (tabulate n f) ++ signed_bytes w (f n) ≡ fields w (tabulate (suc n) f)
unfolding laid tabulate
one_more w zero f = sym (append-nil (signed_bytes w (f 0)))
one_more w (suc n) f = rw (append_assoc, one_more w n (λ i. f (suc i)))

-- before turn i, the first i figures are written
pub record FieldsPut (w count : ℕ) (figures : List ℤ) (d₀ d : List ℕ) (i : ℕ) : Type 0 where
  pub within : i ≤ count
  pub long : length d ≡ length d₀
  pub is : d ≡ written (first_fields w i figures) d₀

-- before the first turn none is
pub no_field : {w count : ℕ} {figures : List ℤ} {d : List ℕ} → FieldsPut w count figures d d 0
unfolding laid tabulate
no_field {d = d} = record { within = omega arith; long = refl; is = written_none d }

-- figure i is written after them
pub field-more : {w count i : ℕ} {figures : List ℤ} {d₀ d d' : List ℕ} → FieldsPut w count figures d₀ d i → i < count
    → d' ≡ written_at (w * i) (signed_bytes w (at figures i)) d → length d' ≡ length d
    → FieldsPut w count figures d₀ d' (i + 1)
field-more {w} {i = i} {figures = figures} {d₀ = d₀} {d = d} t more e l =
    let z = at figures i in
    let before : Filled d₀ (first_fields w i figures) (w * i) d =
    record { is = t.is; long = length-first w i figures } in
    let filled = fill (signed_bytes w z) before (length-signed w z) e in
    record { within = omega arith; long = l ∙ t.long; is = filled.is ∙ rw (add-one, one_more w i (at figures)) }

-- after the last turn all are
pub all-fields : {w count i : ℕ} {figures : List ℤ} {d₀ d : List ℕ} → FieldsPut w count figures d₀ d i → count ≤ i
    → d ≡ written (first_fields w count figures) d₀
all-fields {w} {count} {i} {figures} {d₀} t end =
    let all : i ≡ count = omega arith in
    t.is ∙ ap (λ k. written (first_fields w k figures) d₀) all
