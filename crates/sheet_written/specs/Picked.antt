-- The numbers below n that pass a test, rising: one number more, what is picked, and which numbers count.
use Rattle.std.specs.Prelude.{◌≡◌, refl, Bool, cond, List, [], ◌∷◌, ◌++◌, get_or}
use Rattle.std.proofs.Common.{◌∙◌, inl, inr, eq-or-lt_of_le, le_of_suc-le-suc, not-suc-le-zero, lt-suc_self, add-zero}
use Rattle.std.proofs.Common.{add-suc}
use Rattle.std.proofs.Math.Bool.{true, false}
use Prim.Native.Nat.{ℕ, zero, suc, ◌+◌, ◌<◌, ◌≤◌}
use Rattle.std.proofs.Math.Nat.{le_step, zero-add}
use native.Mathlib.Omega.{arith}
use Rattle.std.proofs.Math.ListN.{length, length-append}
use Rattle.rules.specs.Encoder.{picked}
use Rattle.sheet_written.specs.Lists.{each_more, Rises, rises-more}

-- ---- one number more
module _ (n : ℕ) (test : ℕ → Bool) where
  -- it passes
  pub picked-yes : test n ≡ true → picked (suc n) test ≡ picked n test ++ (n ∷ [])
  unfolding picked
  picked-yes h = rw h

  -- it does not
  pub picked-no : test n ≡ false → picked (suc n) test ≡ picked n test
  unfolding picked
  picked-no h = rw h

-- a law of what is picked, by the numbers that pass and those that do not
pub picked-induction : (test : ℕ → Bool) (Q : ℕ → List ℕ → Type 0) → Q 0 []
    → ((n : ℕ) → test n ≡ true → Q n (picked n test) → Q (suc n) (picked n test ++ (n ∷ [])))
    → ((n : ℕ) → test n ≡ false → Q n (picked n test) → Q (suc n) (picked n test))
    → (n : ℕ) → Q n (picked n test)
unfolding picked
picked-induction test Q start more other zero = start
picked-induction test Q start more other (suc n) = by (test n) refl (picked-induction test Q start more other n)
  where
    by : (b : Bool) → test n ≡ b → Q n (picked n test)
        → Q (suc n) (cond (test n) (picked n test ++ (n ∷ [])) (picked n test))
    by true h q = rw h (more n h q)
    by false h q = rw h (other n h q)

-- ---- what is picked
module _ (test : ℕ → Bool) where
  -- each lies below n and passes
  pub picked-passes : (n i : ℕ) → i < length (picked n test)
      → (get_or (picked n test) i 0 < n) × (test (get_or (picked n test) i 0) ≡ true)
  picked-passes =
      picked-induction test (λ n xs. (i : ℕ) → i < length xs → (get_or xs i 0 < n) × (test (get_or xs i 0) ≡ true))
      (λ i l. absurd (not-suc-le-zero l))
      (λ n h q.
      each_more (λ x. (x < suc n) × (test x ≡ true)) (picked n test) n
      (λ i l. (le_step (q i l).0, (q i l).1))
      (lt-suc_self n, h))
      (λ n h q i l. (le_step (q i l).0, (q i l).1))

  -- it rises
  pub picked-rises : (n : ℕ) → Rises (picked n test)
  picked-rises =
      picked-induction test (λ n xs. Rises xs)
      (unfold Rises in λ i l. absurd (not-suc-le-zero l))
      (λ n h q. rises-more (picked n test) n q (λ i l. (picked-passes n i l).0))
      (λ n h q. q)

  -- of b numbers more, at most b more are picked
  pub picked-adds : (a b : ℕ) → length (picked (a + b) test) ≤ length (picked a test) + b
  unfolding picked
  picked-adds a zero = rw (add-zero a) (omega arith)
  picked-adds a (suc b) = rw (add-suc a b) (by (test (a + b)) (picked-adds a b))
    where
      by : (t : Bool) → length (picked (a + b) test) ≤ length (picked a test) + b
          → length (cond t (picked (a + b) test ++ ((a + b) ∷ [])) (picked (a + b) test))
          ≤ length (picked a test) + suc b
      by true h = rw length-append (omega arith)
      by false h = omega arith

  -- and so of n numbers at most n
  pub picked-few : (n : ℕ) → length (picked n test) ≤ n
  unfolding picked
  picked-few n = simp zero-add at (picked-adds 0 n)

-- ---- which numbers count
-- only those below n
pub picked-cong : (n : ℕ) (test other : ℕ → Bool) → ((q : ℕ) → q < n → test q ≡ other q)
    → picked n test ≡ picked n other
unfolding picked
picked-cong zero test other h = refl
picked-cong (suc n) test other h =
    let before = picked-cong n test other (λ q l. h q (le_step l)) in
    λ t. cond (h n (lt-suc_self n) t) (before t ++ (n ∷ [])) (before t)

-- where none from k on passes, those below k are all
pub picked-skip : (k n : ℕ) (test : ℕ → Bool) → k ≤ n → ((q : ℕ) → k ≤ q → q < n → test q ≡ false)
    → picked n test ≡ picked k test
picked-skip k zero test l h = let e : k ≡ 0 = omega arith in rw e
picked-skip k (suc n) test l h = elim (eq-or-lt_of_le l) [
  | inl e ↦ rw e
  | inr m ↦
      picked-no n test (h n (le_of_suc-le-suc m) (lt-suc_self n))
      ∙ picked-skip k n test (le_of_suc-le-suc m) (λ q a b. h q a (le_step b))
]

-- where k is the last that passes, it comes after those below k
pub picked_last : (k n : ℕ) (test : ℕ → Bool) → k < n → test k ≡ true → ((q : ℕ) → k < q → q < n → test q ≡ false)
    → picked n test ≡ picked k test ++ (k ∷ [])
picked_last k n test l here h = picked-skip (suc k) n test l h ∙ picked-yes k test here
