-- A text and the lent bytes that take it, or cannot.
use Rattle.std.specs.Prelude.{ℕ, ◌<◌, ◌≤◌, ◌≡◌, refl, Bool, true, false, cond, List, ◌++◌, leb, length, take, drop}
use Rattle.std.proofs.Common.{sym, ◌∙◌, arith, leb-true, le-leb}
use Rattle.std.proofs.lemmas.Bool.{lt-leb}
use Rattle.rules.specs.Listing.{fits, Listed}
use Rattle.out_text.specs.Text.{Puts}
use Rattle.out_text.specs.Growing.{whole-put, front-put}
use Rattle.out_lines.specs.Lines.{Begins}

-- where 4,096 bytes were lent, the text stands at their start
pub begun : {t d d' : List ℕ} {end : ℕ} → Begins t d d' end → length d ≡ 4096 → (take end d' ≡ t) × (end ≡ length t)
begun b long = front-put b.puts (rw long b.short)

-- a text that lent bytes can take is written to them
pub listed-is : {t lent after : List ℕ} {end : ℕ} → after ≡ t ++ drop (length t) lent → end ≡ length t
    → length t ≤ length lent → Listed t lent after end
unfolding fits
listed-is {t} {lent} is ends room =
    let room-is = sym (le-leb (length t) (length lent) room) in
    record {
      bytes-are = is ∙ (λ k. cond (room-is k) (t ++ drop (length t) lent) lent);
      length-is = ends ∙ (λ k. cond (room-is k) (length t) 0);
    }

pub listed : {t lent after : List ℕ} {end : ℕ} → Puts t lent 0 after end → length t ≤ length lent
    → Listed t lent after end
listed p room = let (is, ends) = whole-put p room in listed-is is ends room

-- a longer one is not
pub not_listed : {t lent : List ℕ} → length lent < length t → Listed t lent lent 0
unfolding fits
not_listed {t} {lent} long =
    let no_room = lt-leb (length t) (length lent) long in
    record { bytes-are = simp no_room; length-is = simp no_room }

-- what is written ends inside the lent bytes
pub listed-within : {t lent after : List ℕ} {end : ℕ} → Listed t lent after end → end ≤ length lent
unfolding fits
listed-within {t} {lent} l = rw l.length-is (within (leb (length t) (length lent)) refl)
  where
    within : (room : Bool) → leb (length t) (length lent) ≡ room → cond room (length t) 0 ≤ length lent
    within true e = leb-true (length t) (length lent) e
    within false e = omega arith
