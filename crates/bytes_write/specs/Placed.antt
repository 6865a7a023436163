-- Bytes written at several places of a lent buffer.
use Rattle.std.specs.Prelude.{◌≡◌, List, ◌++◌, ℕ, ◌+◌, ◌-◌, ◌≤◌, length, take, drop}
use Rattle.std.proofs.Common.{sym, ap, ◌∙◌, append_assoc, add-zero, add_assoc, arith, take-append-drop, length-append}
use Rattle.std.proofs.Common.{length-drop, length-take-le, drop-drop}
use Rattle.std.proofs.lemmas.List.{take-append-le, drop-append-le}
use Rattle.std.proofs.Math.Seq.{take-append-add, drop-append-add}
use Rattle.bytes_write.specs.Written.{written, written_at}

-- no length changes
pub length-placed : (a : ℕ) (bytes d : List ℕ) → a + length bytes ≤ length d → length (written_at a bytes d) ≡ length d
unfolding written_at written
length-placed a bytes d h =
    simp (length-append, length-take-le a d (omega arith), length-drop) (omega arith)

-- ---- a buffer in two parts
-- bytes that lie in the first
in-first : (a : ℕ) (bytes p q : List ℕ) → a + length bytes ≤ length p
    → written_at a bytes (p ++ q) ≡ written_at a bytes p ++ q
unfolding written_at written
in-first a bytes p q h =
    let past : length bytes ≤ length (drop a p) = rw length-drop (omega arith) in
    let rest = drop-append-le (length bytes) (drop a p) q past in
    rw (take-append-le a p q (omega arith), drop-append-le a p q (omega arith), rest) (simp append_assoc)

-- bytes that lie in the second
in-second : (k : ℕ) (bytes p q : List ℕ) → written_at (length p + k) bytes (p ++ q) ≡ p ++ written_at k bytes q
unfolding written_at written
in-second k bytes p q = rw (take-append-add p q k, drop-append-add p q k) (append_assoc p (take k q) _)

-- ---- two places
-- y is written where x ends: x and y are written
pub placed_on : (a : ℕ) (x y d : List ℕ) → a + length x ≤ length d
    → written_at (a + length x) y (written_at a x d) ≡ written_at a (x ++ y) d
unfolding written_at written
placed_on a x y d h =
    let front = take a d in
    let rest = drop (length x) (drop a d) in
    let place : a + length x ≡ length front + (length x + 0) = omega (arith, length-take-le a d (omega arith)) in
    (λ t. written_at (place t) y (front ++ (x ++ rest)))
    ∙ in-second (length x + 0) y front (x ++ rest)
    ∙ ap (λ (tail : List ℕ). front ++ tail) (in-second 0 y x rest)
    ∙ simp (append_assoc, length-append, drop-drop, add-zero, add_assoc)

-- x ends where y begins or before: it does not matter which is written first
pub placed-apart : (a b : ℕ) (x y d : List ℕ) → a + length x ≤ b → b ≤ length d
    → written_at a x (written_at b y d) ≡ written_at b y (written_at a x d)
placed-apart a b x y d h l =
    let p = take (a + length x) d in
    let q = drop (a + length x) d in
    let k = b - (a + length x) in
    let long : length p ≡ a + length x = length-take-le (a + length x) d (omega arith) in
    let whole : d ≡ p ++ q = sym (take-append-drop (a + length x) d) in
    let place : b ≡ length p + k = omega arith in
    let short : a + length x ≤ length p = omega arith in
    let wrote : b ≡ length (written_at a x p) + k = place ∙ ap (λ (n : ℕ). n + k) (sym (length-placed a x p short)) in
    (λ t. written_at a x (written_at (place t) y (whole t)))
    ∙ ap (written_at a x) (in-second k y p q)
    ∙ in-first a x p (written_at k y q) short
    ∙ sym (in-second k y (written_at a x p) q)
    ∙ (λ t. written_at (sym wrote t) y (sym (in-first a x p q short) t))
    ∙ (λ t. written_at b y (written_at a x (sym whole t)))
