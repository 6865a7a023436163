-- The entries of figures that stand under consecutive keys, in the order of the keys: a figure of 0 has none.
use Rattle.std.specs.Prelude.{◌≡◌, refl, Bool, true, not, cond, ℕ, zero, suc, ◌+◌, ◌-◌, ◌<◌, ◌≤◌, ℤ, pos, length}
use Rattle.std.proofs.Common.{sym, ap, ap₂, ◌∙◌, lt-suc_self, add-zero, add-suc, arith, length-append}
use Rattle.std.proofs.Math.Bool.{false}
use mathlib.Core.List.{List, [], ◌∷◌, ◌++◌, map, map-append, append-nil, append_assoc}
use Rattle.std.proofs.Math.Nat.{le_step, zero-add}
use Rattle.rules.specs.Notation.{is_zero}
use Rattle.rules.specs.Sheet.{Table}
use Rattle.rules.specs.Encoder.{picked}
use Rattle.proof_laws.specs.Entries.{nonzero}

-- a key and its value
pub record Entry : Type 0 where
  pub key : ℕ
  pub value : ℤ

-- the entry of a figure
unfoldable pub entry : ℕ → ℤ → List Entry
entry key value = cond (is_zero value) [] (record { key = key; value = value } ∷ [])

pub entry-none : (key : ℕ) {value : ℤ} → value ≡ pos 0 → entry key value ≡ []
unfolding entry is_zero
entry-none key z = rw z

pub entry-one : (key : ℕ) (value : ℤ) → (value ≡ pos 0 → ⊥) → entry key value ≡ record { key = key; value = value } ∷ []
unfolding entry
entry-one key value h = rw (nonzero value h)

pub entry-short : (key : ℕ) (value : ℤ) → length (entry key value) ≤ 1
unfolding entry
entry-short key value = by (is_zero value)
  where
    by : (b : Bool) → length {A = Entry} (cond b [] (record { key = key; value = value } ∷ [])) ≤ 1
    by true = omega arith
    by false = omega arith

-- the entries of figures f 0 to f (count − 1), under the keys from `first` on
unfoldable pub run : ℕ → ℕ → (ℕ → ℤ) → List Entry
run first zero f = []
run first (suc count) f = run first count f ++ entry (first + count) (f count)

-- ---- laws of runs
pub run-cong : (first count : ℕ) (f g : ℕ → ℤ) → ((j : ℕ) → j < count → f j ≡ g j)
    → run first count f ≡ run first count g
unfolding run
run-cong first zero f g h = refl
run-cong first (suc count) f g h =
    ap₂ ◌++◌
    (run-cong first count f g (λ j l. h j (le_step l)))
    (ap (entry (first + count)) (h count (lt-suc_self count)))

-- figures of 0 have no entry
pub run_none : (first count : ℕ) (f : ℕ → ℤ) → ((j : ℕ) → j < count → f j ≡ pos 0) → run first count f ≡ []
unfolding run entry is_zero
run_none first zero f h = refl
run_none first (suc count) f h =
    rw (run_none first count f (λ j l. h j (le_step l)), h count (lt-suc_self count))

-- the first a figures, and then b more
pub run-split : (first a b : ℕ) (f : ℕ → ℤ) → run first (a + b) f ≡ run first a f ++ run (first + a) b (λ j. f (a + j))
unfolding run
run-split first a zero f = rw add-zero (sym (append-nil (run first a f)))
run-split first a (suc b) f =
    let place : first + (a + b) ≡ first + a + b = omega arith in
    rw (add-suc, place, run-split first a b f) (append_assoc (run first a f) _ _)

-- ---- a whole table: its run has an entry for each key that is picked
pub run-table : (T : Table) (count : ℕ)
    → run 0 count T ≡ map (λ q. record { key = q; value = T q }) (picked count (λ q. not (is_zero (T q))))
unfolding run picked
run-table T zero = refl
run-table T (suc count) = by (is_zero (T count)) refl (run-table T count)
  where
    by : (b : Bool) → is_zero (T count) ≡ b
        → run 0 count T ≡ map (λ q. record { key = q; value = T q }) (picked count (λ q. not (is_zero (T q))))
        → run 0 count T ++ entry (0 + count) (T count)
        ≡ map (λ q. record { key = q; value = T q }) (picked (suc count) (λ q. not (is_zero (T q))))
    by true z before = unfold entry in rw (z, append-nil) before
    by false z before = unfold entry in rw (z, zero-add, map-append, before)

-- fewer figures have no more entries
pub run-grows : (first : ℕ) {j count : ℕ} (f : ℕ → ℤ) → j ≤ count → length (run first j f) ≤ length (run first count f)
run-grows first {j} {count} f l =
    let whole : count ≡ j + (count - j) = omega arith in
    let parts = ap (λ (c : ℕ). length (run first c f)) whole ∙ ap length (run-split first j (count - j) f) in
    omega (arith, parts, length-append (run first j f) (run (first + j) (count - j) (λ k. f (j + k))))
