-- Bytes written to a lent buffer, and a part of the buffer lent on.
use Rattle.std.specs.Prelude.{◌≡◌, refl, List, [], ◌++◌, ℕ, ◌+◌, ◌-◌, length, take, drop}
use Rattle.std.proofs.Common.{sym, ap, ◌∙◌, append_assoc, append-nil, le_of_eq, length-append, length-drop}
use Rattle.std.proofs.Common.{drop_of_length-le, drop-drop, take_at, drop_at, take_all}

-- the bytes at the start of d, and then the rest of d as it was
unfoldable pub written : List ℕ → List ℕ → List ℕ
written bytes d = bytes ++ drop (length bytes) d

-- the bytes from place a of d on, and all else of d as it was
unfoldable pub written_at : ℕ → List ℕ → List ℕ → List ℕ
written_at a bytes d = take a d ++ written bytes (drop a d)

-- no byte is written
pub written_none : (d : List ℕ) → d ≡ written [] d
unfolding written
written_none d = refl

-- bytes after bytes: the later ones are at the start of the rest
written-append : (front bytes d : List ℕ)
    → written (front ++ bytes) d ≡ front ++ written bytes (drop (length front) d)
unfolding written
written-append front bytes d = simp (append_assoc, length-append, drop-drop)

-- d is d₀ with `front` written, which has a bytes
pub record Filled (d₀ front : List ℕ) (a : ℕ) (d : List ℕ) : Type 0 where
  pub is : d ≡ written front d₀
  pub long : length front ≡ a

-- nothing is written
pub unfilled : (d : List ℕ) → Filled d [] 0 d
unfilled d = record { is = written_none d; long = refl }

-- the place after `front`, named in another way
pub filled-to : {d₀ front d : List ℕ} {a b : ℕ} → b ≡ a → Filled d₀ front a d → Filled d₀ front b d
filled-to e f = record { is = f.is; long = f.long ∙ sym e }

-- w bytes are written at the place after `front`: they follow it
pub fill : {d₀ front d d' : List ℕ} {a w : ℕ} (bytes : List ℕ) → Filled d₀ front a d → length bytes ≡ w
    → d' ≡ written_at a bytes d → Filled d₀ (front ++ bytes) (a + w) d'
unfolding written written_at
fill {d₀} {front} {d} {a = a} bytes f l h =
    let rest = drop (length front) d₀ in
    let head : take a d ≡ front = ap (take a) f.is ∙ take_at front rest a f.long in
    let tail : drop a d ≡ rest = ap (drop a) f.is ∙ drop_at front rest a f.long in
    record {
      is = h ∙ simp (head, tail) (sym (written-append front bytes d₀));
      long = rw (length-append, f.long, l);
    }

-- the part of d that `&mut d[a..]` lends
abbrev pub lent_part : List ℕ → ℕ → List ℕ
lent_part d a = take (length d - a) (drop a d)

-- d, once that part came back as `part`
abbrev pub part_returned : List ℕ → ℕ → List ℕ → List ℕ
part_returned d a part = take a d ++ (part ++ drop (length d - a) (drop a d))

-- the part after `front` was lent, and came back with w bytes at its start: they follow `front`
pub extend : {d₀ front d part : List ℕ} {a w : ℕ} (bytes : List ℕ) → Filled d₀ front a d → length bytes ≡ w
    → part ≡ written bytes (lent_part d a) → Filled d₀ (front ++ bytes) (a + w) (part_returned d a part)
unfolding written_at
extend {d₀} {front} {d} {part} {a} {w} bytes f l h =
    let past : drop (length d - a) (drop a d) ≡ [] = drop_of_length-le (drop a d) (le_of_eq (length-drop a d)) in
    let all : lent_part d a ≡ drop a d = take_all (length d - a) (drop a d) (le_of_eq (length-drop a d)) in
    fill bytes f l (simp (past, append-nil, h, all))
