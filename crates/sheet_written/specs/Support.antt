-- The support of a table: the keys below `room` whose figure is not 0. `keys_of` is the support below all keys; here
-- `room` is a variable, so that no list is written out.
use Rattle.std.specs.Prelude.{◌≡◌, refl, Bool, true, false, not, List, ℕ, suc, ◌<◌, ◌≤◌, eqb, ℤ}
use Rattle.std.specs.Prelude.{pos, negsuc, length, get_or}
use Rattle.std.proofs.Common.{ap, arith, eqb-true}
use Rattle.std.proofs.lemmas.Bool.{not-false}
use Rattle.rules.specs.Notation.{is_zero}
use Rattle.rules.specs.Sheet.{Table}
use Rattle.rules.specs.Encoder.{picked, all_keys, keys_of}
use Rattle.sheet_written.specs.Lists.{Rises}
use Rattle.sheet_written.specs.Picked.{picked-passes, picked-rises, picked-few}
use Rattle.sheet_written.specs.Picked.{picked-cong}

-- is a figure not 0?
abbrev pub present : ℤ → Bool
present x = not (is_zero x)

-- a figure that is not present is 0
pub present-not : (x : ℤ) → present x ≡ false → x ≡ pos 0
unfolding is_zero
present-not (pos n) h = ap pos (eqb-true n 0 (not-false (eqb n 0) h))
present-not (negsuc n) h =
    let z : suc n ≡ 0 = eqb-true (suc n) 0 (not-false (eqb (suc n) 0) h) in
    absurd (omega arith)

-- and 0 is not present
pub absent-zero : present (pos 0) ≡ false
unfolding is_zero
absent-zero = refl

-- the keys below `room` with such a figure
abbrev pub support : ℕ → Table → List ℕ
support room T = picked room (λ q. present (T q))

-- ---- the keys of a table
module _ (T : Table) where
  abbrev test : ℕ → Bool
  test q = present (T q)

  -- each is one of all keys
  pub keys_below : (i : ℕ) → i < length (keys_of T) → get_or (keys_of T) i 0 < all_keys
  unfolding keys_of
  keys_below i l = (picked-passes test all_keys i l).0

  -- and has a figure that is not 0
  pub keys-present : (i : ℕ) → i < length (keys_of T) → present (T (get_or (keys_of T) i 0)) ≡ true
  unfolding keys_of
  keys-present i l = (picked-passes test all_keys i l).1

  -- they rise
  pub keys-rise : Rises (keys_of T)
  unfolding keys_of
  keys-rise = picked-rises test all_keys

  -- and are no more than all keys
  pub keys-few : length (keys_of T) ≤ all_keys
  unfolding keys_of
  keys-few = picked-few test all_keys

-- only the figures below all keys count
pub keys-cong : (T U : Table) → ((q : ℕ) → q < all_keys → T q ≡ U q) → keys_of T ≡ keys_of U
unfolding keys_of
keys-cong T U h = picked-cong all_keys _ _ (λ q l. ap present (h q l))
