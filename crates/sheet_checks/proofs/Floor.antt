-- The least key that an entry may have: the test of a key against it is that of refusal 5.
use mathlib.Core.Path.{◌≡◌, refl}
use mathlib.Core.Bool.{Bool, true, false}
use Prim.Native.Nat.{ℕ, zero, suc, ◌+◌}
use native.Mathlib.Omega.{arith}
use native.Mathlib.Numerals.{add-one}
use borrow.Author.Tests.{lt-ltb, le-ltb, leb-true, leb-false}
use lib.Dec.{ltb, leb}
use Rattle.rules.specs.Sheet.{Sheet}
use Rattle.rules.specs.Refusals.{not_above, bad_key}
use Rattle.sheet_entries.specs.KeyRead.{key_bad}

-- the least key that entry i may have: above the key before, if there is one
unfoldable pub floor_of : Sheet → ℕ → ℕ
floor_of S zero = 0
floor_of S (suc i) = suc (S.key i)

pub floor-next : (S : Sheet) (i : ℕ) → floor_of S (i + 1) ≡ S.key i + 1
unfolding floor_of
floor-next S i = rw (add-one, add-one)

-- not above the key before is below the next one
below_next : (a b : ℕ) → ltb a (suc b) ≡ leb a b
below_next a b = by (leb a b) refl
  where
    by : (t : Bool) → leb a b ≡ t → ltb a (suc b) ≡ t
    by true h = let l = leb-true a b h in lt-ltb a (suc b) (omega arith)
    by false h = let l = leb-false a b h in le-ltb a (suc b) (omega arith)

floor-test : (S : Sheet) (i : ℕ) → ltb (S.key i) (floor_of S i) ≡ not_above S i
unfolding floor_of not_above
floor-test S zero = le-ltb (S.key 0) 0 (omega arith)
floor-test S (suc i) = below_next (S.key (suc i)) (S.key i)

pub key-test : (S : Sheet) (i : ℕ) → key_bad S.sizes.shape (floor_of S i) (S.key i) ≡ bad_key S i
unfolding bad_key
key-test S i = rw (floor-test S i)
