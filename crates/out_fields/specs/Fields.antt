-- The first figures of an array: their bytes.
use Rattle.std.specs.Prelude.{◌≡◌, refl, List, [], ◌∷◌, ℕ, zero, suc, ◌*◌, ◌≤◌, ℤ, length, map, take}
use Rattle.std.proofs.Common.{ap, sym, ◌∙◌, arith, take_all, le_of_eq}
use Rattle.std.proofs.lemmas.List.{map-id}
use Rattle.proof_integer.specs.Vector.{length-tabulate}
use Rattle.rules.specs.Notation.{tabulate, at}
use Rattle.rules.specs.Record.{fields}
use Rattle.bytes_write.specs.Number.{length_fields}

-- the bytes of the first n figures, w of each
abbrev pub first_fields : ℕ → ℕ → List ℤ → List ℕ
first_fields w n figures = fields w (tabulate n (at figures))

pub length-first : (w n : ℕ) (figures : List ℤ) → length (first_fields w n figures) ≡ w * n
length-first w n figures =
    length_fields w (tabulate n (at figures)) ∙ ap (λ (k : ℕ). w * k) (length-tabulate n (at figures))

-- what stands at the first n places
first : (n : ℕ) (figures : List ℤ) → n ≤ length figures → tabulate n (at figures) ≡ take n figures
unfolding tabulate
first zero figures h = refl
first (suc n) [] h = absurd (omega arith)
first (suc n) (z ∷ figures) h = ap (λ (rest : List ℤ). z ∷ rest) (first n figures (omega arith))

-- the fields of a part of an array are its first ones, also where each figure is its own number ..
pub part-first : (w n : ℕ) (figures : List ℤ) → n ≤ length figures
    → fields w (map (λ z. z) (take n figures)) ≡ first_fields w n figures
part-first w n figures h = rw map-id (ap (fields w) (sym (first n figures h)))

-- .. and those of all are all
pub all-first : (w n : ℕ) (figures : List ℤ) → n ≡ length figures → first_fields w n figures ≡ fields w figures
all-first w n figures e =
    ap (fields w) (first n figures (le_of_eq e) ∙ take_all n figures (omega arith))
