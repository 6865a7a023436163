-- The number that an element of a list stands for is that of its place.
use Rattle.std.proofs.Common.{◌≡◌, ℕ, ◌<◌, ℤ, pos, List, map, length, get_or, sym, ap, ◌∙◌}
use Rattle.std.proofs.lemmas.List.{get_or-map, length-map}
use Rattle.rules.specs.Notation.{at}

pub number-at : {A : Type 0} (value : A → ℤ) (xs : List A) {i : ℕ} {x : A} → i < length (map value xs)
    → x ≡ get_or xs i x → value x ≡ at (map value xs) i
number-at value xs {i} {x} inside e =
    sym (get_or-map value xs i x (pos 0) (rw length-map at inside) ∙ ap value (sym e))
