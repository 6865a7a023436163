-- Refusal 6 of the table of the arrays is theirs, array by array.
use Rattle.std.specs.Prelude.{◌≡◌, Bool, ◌&&◌, List, [], ◌∷◌, ◌++◌, ℤ, length}
use Rattle.std.proofs.Math.Path.{refl, ap, ap₂}
use Rattle.std.proofs.Common.{sym, ◌∙◌, zero-add, add-zero, add-suc, mul-suc, arith}
use Rattle.std.proofs.Math.Bool.{true, false, not, ◌||◌, or-false, or_assoc}
use Prim.Native.Nat.{ℕ, zero, suc, ◌+◌, ◌*◌, ◌<◌, ◌≤◌}
use Rattle.std.proofs.Math.Nat.{mul-zero}
use Rattle.rules.specs.Notation.{is_zero, any_below, at}
use Rattle.rules.specs.declared.Kind.{Kind}
use Rattle.rules.specs.declared.Kind.TheVariants.{Cost, Least, Most, Coefficient, Rhs, Start}
use Rattle.rules.specs.declared.Shape.{Shape}
use Rattle.rules.specs.Sheet.{key_of}
use Rattle.rules.specs.Ranges.{range_of, kind_at, in_range}
use Rattle.rules.specs.Encoder.{all_keys}
use Rattle.rules.specs.Refusals.{value_bad}
use Rattle.rules_arrays.specs.Arrays.{Arrays, gathered, figure_bad}
use Rattle.proof_laws.specs.Below.{any-cong}
use Rattle.proof_laws.specs.Entries.{key-parts, coefficient-kind, rhs-kind, start-kind}
use Rattle.sheet_arrays.specs.Runs.{Entry, entry, run}
use Rattle.sheet_arrays.specs.Lengths.{LengthsMatch}
use Rattle.sheet_arrays.specs.Listed.{material_entries, limit_entries, limits_entries, entries_of}
use Rattle.sheet_arrays.proofs.Listed.{entries-listed}
use Rattle.sheet_arrays.specs.Tested.{outside, any_outside, arrays_outside}

-- ---- tests at some place
any-split : (a b : ℕ) (test : ℕ → Bool) → any_below (a + b) test ≡ any_below a test || any_below b (λ j. test (a + j))
unfolding any_below
any-split a zero test = rw add-zero (sym (or-false (any_below a test)))
any-split a (suc b) test = rw (add-suc, any-split a b test) (or_assoc (any_below a test) _ _)

-- at some entry of a list
unfoldable any_in : (ℕ → ℤ → Bool) → List Entry → Bool
any_in bad [] = false
any_in bad (x ∷ xs) = bad x.key x.value || any_in bad xs

any_append : (bad : ℕ → ℤ → Bool) (xs ys : List Entry) → any_in bad (xs ++ ys) ≡ any_in bad xs || any_in bad ys
unfolding any_in
any_append bad [] ys = refl
any_append bad (x ∷ xs) ys = rw (any_append bad xs ys) (sym (or_assoc (bad x.key x.value) _ _))

-- ---- the test of a figure under a key is that of its kind
module _ (shape : Shape) where
  zero-good : (key : ℕ) (v : ℤ) → is_zero v ≡ true → figure_bad shape key v ≡ false
  unfolding figure_bad
  zero-good key v z = rw z

  pub bad-outside : (row column : ℕ) {kind : Kind} (v : ℤ) → column < 64 → kind_at shape row column ≡ kind
      → figure_bad shape (key_of row column) v ≡ outside kind v
  unfolding figure_bad value_bad outside
  bad-outside row column {kind} v narrow k =
      let (r, c) = key-parts row column narrow in rw (r, c, k) (by (is_zero v) (in_range (range_of kind) v))
    where
      by : (z inside : Bool) → not z && (z || not inside) ≡ not z && not inside
      by true inside = refl
      by false inside = refl

  -- an entry is bad where its figure is
  any_entry : (key : ℕ) (v : ℤ) → any_in (figure_bad shape) (entry key v) ≡ figure_bad shape key v
  unfolding any_in entry
  any_entry key v = by (is_zero v) refl
    where
      by : (z : Bool) → is_zero v ≡ z → any_in (figure_bad shape) (entry key v) ≡ figure_bad shape key v
      by true z = rw z (sym (zero-good key v z))
      by false z = rw z (or-false (figure_bad shape key v))

  any-run : (first count : ℕ) (f : ℕ → ℤ)
      → any_in (figure_bad shape) (run first count f) ≡ any_below count (λ j. figure_bad shape (first + j) (f j))
  unfolding run any_below any_in
  any-run first zero f = refl
  any-run first (suc count) f =
      any_append (figure_bad shape) (run first count f) (entry (first + count) (f count))
      ∙ ap₂ ◌||◌ (any-run first count f) (any_entry (first + count) (f count))

  -- a run of figures of one kind in a row
  row-tested : (row count : ℕ) (kind : Kind) (f : ℕ → ℤ) → count ≤ 64
      → ((j : ℕ) → j < count → kind_at shape row j ≡ kind)
      → any_in (figure_bad shape) (run (key_of row 0) count f) ≡ any_below count (λ j. outside kind (f j))
  row-tested row count kind f narrow kinds =
      any-run (key_of row 0) count f
      ∙ any-cong count _ _ (λ j l.
      let key : key_of row 0 + j ≡ key_of row j = omega arith in
      ap (λ (k : ℕ). figure_bad shape k (f j)) key ∙ bad-outside row j (f j) (omega arith) (kinds j l))

-- three tests and three more, each beside its own
shuffle : (p q s r x y : Bool) → (p || q || s) || (r || x || y) ≡ (p || r) || (q || x) || (s || y)
shuffle true q s r x y = refl
shuffle false q s true x y = by q s
  where
    by : (q s : Bool) → q || s || true ≡ true
    by true s = refl
    by false true = refl
    by false false = refl
shuffle false true s false x y = refl
shuffle false false s false true y = by s
  where
    by : (s : Bool) → s || true ≡ true
    by true = refl
    by false = refl
shuffle false false s false false y = refl

-- ---- the entries of the arrays
module _ (shape : Shape) (A : Arrays) (narrow : shape.materials ≤ 32) where
  abbrev n : ℕ
  n = shape.materials

  abbrev limit : ℕ → List Entry
  limit i = limit_entries n A.coefficients A.right_hand_sides A.starts i

  abbrev limits : ℕ → List Entry
  limits i = limits_entries n A.coefficients A.right_hand_sides A.starts i

  -- some of the first figures of an array
  abbrev some : Kind → List ℤ → ℕ → Bool
  some kind xs count = any_below count (λ j. outside kind (at xs j))

  limit-tested : (i : ℕ) → any_in (figure_bad shape) (limit i)
      ≡ any_below n (λ j. outside Coefficient (at A.coefficients (n * i + j)))
      || outside Rhs (at A.right_hand_sides i) || outside Start (at A.starts i)
  unfolding limit_entries
  limit-tested i =
      let row = key_of (3 + i) 0 in
      let coefficients = row-tested shape (3 + i) n Coefficient (λ j. at A.coefficients (n * i + j)) (omega arith)
      (coefficient-kind shape i) in
      let rhs = any_entry shape (key_of (3 + i) n) (at A.right_hand_sides i)
      ∙ bad-outside shape (3 + i) n (at A.right_hand_sides i) (omega arith) (rhs-kind shape i) in
      let start = any_entry shape (key_of (3 + i) (n + 1)) (at A.starts i)
      ∙ bad-outside shape (3 + i) (n + 1) (at A.starts i) (omega arith) (start-kind shape i) in
      simp (any_append) (λ t. coefficients t || rhs t || start t)

  limits-tested : (i : ℕ) → any_in (figure_bad shape) (limits i)
      ≡ some Coefficient A.coefficients (n * i) || some Rhs A.right_hand_sides i || some Start A.starts i
  unfolding limits_entries any_below any_in
  limits-tested zero = rw mul-zero
  limits-tested (suc i) =
      any_append (figure_bad shape) (limits i) (limit i)
      ∙ ap₂ ◌||◌ (limits-tested i) (limit-tested i)
      ∙ shuffle (some Coefficient A.coefficients (n * i)) (some Rhs A.right_hand_sides i) (some Start A.starts i)
      (any_below n (λ j. outside Coefficient (at A.coefficients (n * i + j))))
      (outside Rhs (at A.right_hand_sides i)) (outside Start (at A.starts i))
      ∙ ap (λ b. b || some Rhs A.right_hand_sides (suc i) || some Start A.starts (suc i))
      (sym (ap (some Coefficient A.coefficients) (mul-suc n i)
      ∙ any-split (n * i) n (λ j. outside Coefficient (at A.coefficients j))))

  -- refusal 6 of the table is that of the arrays
  module _ (few : shape.limits ≤ 16) (match : LengthsMatch shape A) where
    whole : (kind : Kind) (xs : List ℤ) {count : ℕ} → length xs ≡ count → some kind xs count ≡ any_outside kind xs
    unfolding any_outside
    whole kind xs e = ap (some kind xs) (sym e)

    material-tested : (row : ℕ) (kind : Kind) (xs : List ℤ) → ((j : ℕ) → kind_at shape row j ≡ kind) → length xs ≡ n
        → any_in (figure_bad shape) (run (key_of row 0) n (at xs)) ≡ any_outside kind xs
    material-tested row kind xs kinds e =
        row-tested shape row n kind (at xs) (omega arith) (λ j l. kinds j) ∙ whole kind xs e

    entries-tested : any_in (figure_bad shape) (entries_of shape A) ≡ arrays_outside A
    unfolding arrays_outside entries_of material_entries kind_at
    entries-tested =
        let c = material-tested 0 Cost A.costs (λ j. refl) match.costs in
        let l = material-tested 1 Least A.least_amounts (λ j. refl) match.least_amounts in
        let u = material-tested 2 Most A.most_amounts (λ j. refl) match.most_amounts in
        let a = whole Coefficient A.coefficients match.coefficients in
        let b = whole Rhs A.right_hand_sides match.right_hand_sides in
        let s = whole Start A.starts match.starts in
        simp (any_append, limits-tested shape.limits)
        ((λ t. c t || l t || u t || (a t || b t || s t))
        ∙ in-line
        (any_outside Cost A.costs || any_outside Least A.least_amounts || any_outside Most A.most_amounts)
        (any_outside Coefficient A.coefficients) (any_outside Rhs A.right_hand_sides) (any_outside Start A.starts))
      where
        in-line : (x a b s : Bool) → x || (a || b || s) ≡ x || a || b || s
        in-line true a b s = refl
        in-line false a b s = refl

    pub table-tested : any_below all_keys (λ key. figure_bad shape key (gathered shape A key)) ≡ arrays_outside A
    table-tested =
        any-cong all_keys _ _ (λ key l. ap (λ (k : ℕ). figure_bad shape k (gathered shape A key)) (sym (zero-add key)))
        ∙ sym (any-run shape 0 all_keys (gathered shape A))
        ∙ ap (any_in (figure_bad shape)) (entries-listed shape A narrow few)
        ∙ entries-tested
