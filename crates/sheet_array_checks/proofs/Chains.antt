-- What chains of iterators find, in the words of the definitions: figures by their places.
use Rattle.std.specs.Prelude.{◌≡◌, Bool, true, false, List, ℕ, zero, suc, ◌<◌, ◌≤◌, ℤ, pos, length, take}
use Rattle.std.specs.Prelude.{zip, slice_index_or, Option, Some, None}
use Rattle.std.specs.List.{list_any, AllWithin, HoldsAt}
use Rattle.std.specs.Option.{MatchOption}
use Rattle.std.specs.Int.Signed.{lt_z}
use Rattle.std.proofs.Common.{refl, sym, ap, ◌∙◌, ◌||◌, add-one, arith}
use Rattle.std.proofs.Math.Nat.{le_step}
use Rattle.std.proofs.Math.Option.{none, some}
use Rattle.std.proofs.lemmas.List.{take_all}
use Rattle.std.proofs.lemmas.List.Folds.{list_any_more}
use Rattle.std.proofs.lemmas.Slice.Zip.{length-zip, get_or-zip}
use Rattle.rules.specs.Notation.{any_below, at}
use Rattle.proof_laws.specs.FirstPlace.{scan, scan-more, scan-found, first-start}
use Rattle.sheet_array_checks.specs.Checks.{amounts_refusal}

-- ---- some figure of a list passes a test
module _ (test : ℤ → Bool) (xs : List ℤ) where
  any-first : (n : ℕ) → n ≤ length xs → list_any test (take n xs) ≡ any_below n (λ i. test (at xs i))
  unfolding any_below
  any-first zero l = refl
  any-first (suc n) l =
      let here = list_any_more test xs n (pos 0) (omega arith) in
      rw (← add-one n) (here ∙ ap (λ b. b || test (at xs n)) (any-first n (omega arith)))

  pub any-is : list_any test xs ≡ any_below (length xs) (λ i. test (at xs i))
  any-is = sym (ap (list_any test) (take_all (length xs) xs (omega arith))) ∙ any-first (length xs) (omega arith)

-- ---- the first place at which an amount of one list is below that of the other
none-below : (number : ℕ) (bad : ℕ → Bool) (n : ℕ) → ((i : ℕ) → i < n → bad i ≡ false) → scan number bad n ≡ none
none-below number bad zero h = first-start _
none-below number bad (suc n) h =
    rw (← add-one n) (scan-more number bad (none-below number bad n (λ i l. h i (le_step l))) (h n (omega arith)))

-- is the first of two amounts above the second?
abbrev pub crosses : ℤ × ℤ → Bool
crosses amounts = lt_z amounts.1 amounts.0

module _ (leasts mosts : List ℤ) where
  abbrev pairs : List (ℤ × ℤ)
  pairs = zip leasts mosts

  -- what a search for the first pair that crosses gives
  abbrev pub FirstCrossing : Option ℕ → Type 0
  FirstCrossing found =
      MatchOption found (AllWithin (λ p. crosses p ≡ false) pairs 0 (length pairs))
      (λ j. (j < length pairs) × HoldsAt (λ p. crosses p ≡ true) pairs j × AllWithin (λ p. crosses p ≡ false) pairs 0 j)

  module _ (as_many : length leasts ≡ length mosts) where
    all-pairs : length pairs ≡ length leasts
    all-pairs = omega (arith, length-zip leasts mosts)

    test-is : (j : ℕ) → j < length leasts → {b : Bool} → ((d : ℤ × ℤ) → crosses (slice_index_or pairs j d) ≡ b)
        → lt_z (at mosts j) (at leasts j) ≡ b
    test-is j l h =
        let there = h (pos 0, pos 0) in
        rw (get_or-zip leasts mosts j (pos 0, pos 0) l (omega arith)) at there

    abbrev bad : ℕ → Bool
    bad j = lt_z (at mosts j) (at leasts j)

    pub none-crosses : FirstCrossing None → amounts_refusal leasts mosts ≡ none
    unfolding amounts_refusal
    none-crosses h =
        none-below 7 bad (length leasts) (λ j l. test-is j l (λ d. h j d (omega arith) (omega (arith, all-pairs))))

    pub first-crosses : {j : ℕ} → FirstCrossing (Some j)
        → amounts_refusal leasts mosts ≡ some (record { number = 7; place = j })
    unfolding amounts_refusal
    first-crosses {j} h =
        let inside : j < length leasts = omega (arith, all-pairs, h.0) in
        let before = none-below 7 bad j (λ i l. test-is i (omega arith) (λ d. h.2 i d (omega arith) l)) in
        scan-found 7 bad (length leasts) inside before (test-is j inside h.1)
