-- Refusals with the place 0 for 6, one by one and in their chain.
use Rattle.std.specs.Prelude.{◌≡◌, Bool, ◌||◌, ℕ, zero, suc, eqb}
use Rattle.std.proofs.Math.Path.{refl}
use Rattle.std.proofs.Common.{ap, ap₂, ◌∙◌}
use Rattle.std.proofs.Math.Bool.{true, false}
use Rattle.std.proofs.Math.Option.{Option, none, some, some-ne-none}
use Rattle.rules.specs.Notation.{any_below}
use Rattle.rules.specs.Refusals.{Numbered, refuse, ◌otherwise◌, first_below}
use Rattle.rules_arrays.specs.ReadBack.{unplaced}

-- where there is none with the place 0 for 6, there is none
pub unplaced-none : (a : Option Numbered) → unplaced a ≡ none → a ≡ none
unfolding unplaced
unplaced-none none h = refl
unplaced-none (some r) h = absurd (some-ne-none _ h)

-- of two refusals, each
unplaced-otherwise : (a b : Option Numbered) → unplaced (a otherwise b) ≡ unplaced a otherwise unplaced b
unfolding unplaced ◌otherwise◌
unplaced-otherwise none b = refl
unplaced-otherwise (some r) b = refl

-- ---- by number
-- every other number keeps its place
pub unplaced-other : (number place : ℕ) (test : Bool) → eqb number 6 ≡ false
    → unplaced (refuse number place test) ≡ refuse number place test
unfolding unplaced refuse
unplaced-other number place true h = rw h
unplaced-other number place false h = refl

-- at the first place too
pub unplaced-places : (n number : ℕ) (test : ℕ → Bool) → eqb number 6 ≡ false
    → unplaced (first_below n (λ i. refuse number i (test i))) ≡ first_below n (λ i. refuse number i (test i))
unfolding first_below unplaced
unplaced-places zero number test h = refl
unplaced-places (suc n) number test h =
    unplaced-otherwise _ _
    ∙ ap₂ ◌otherwise◌ (unplaced-places n number test h) (unplaced-other number n (test n) h)

-- of 6 it stays whether there is one
pub unplaced-six : (n : ℕ) (test : ℕ → Bool)
    → unplaced (first_below n (λ i. refuse 6 i (test i))) ≡ refuse 6 0 (any_below n test)
unfolding first_below any_below unplaced
unplaced-six zero test = unfold refuse in refl
unplaced-six (suc n) test =
    unplaced-otherwise _ _
    ∙ ap (λ (x : Option Numbered). x otherwise unplaced (refuse 6 n (test n))) (unplaced-six n test)
    ∙ by (any_below n test) (test n)
  where
    by : (a b : Bool) → refuse 6 0 a otherwise unplaced (refuse 6 n b) ≡ refuse 6 0 (a || b)
    by true b = unfold refuse ◌otherwise◌ in refl
    by false true = unfold refuse ◌otherwise◌ unplaced in refl
    by false false = unfold refuse ◌otherwise◌ unplaced in refl

-- ---- the chain of refusals 1 to 7
module _ (a2 a4 a6 a7 : Option Numbered) where
  -- 1, 3 and 5 are not given
  pub without : {a1 a3 a5 : Option Numbered} → a1 ≡ none → a3 ≡ none → a5 ≡ none
      → a1 otherwise (a2 otherwise a3 otherwise a4) otherwise a5 otherwise a6 otherwise a7
      ≡ a2 otherwise a4 otherwise a6 otherwise a7
  unfolding ◌otherwise◌
  without h1 h3 h5 =
      (λ t. h1 t otherwise (a2 otherwise h3 t otherwise a4) otherwise h5 t otherwise a6 otherwise a7) ∙ by a2
    where
      by : (a : Option Numbered)
          → (a otherwise a4) otherwise a6 otherwise a7 ≡ a otherwise a4 otherwise a6 otherwise a7
      by none = refl
      by (some r) = refl

  -- each of the other four
  pub unplaced-each : unplaced (a2 otherwise a4 otherwise a6 otherwise a7)
      ≡ unplaced a2 otherwise unplaced a4 otherwise unplaced a6 otherwise unplaced a7
  unplaced-each =
      unplaced-otherwise a2 (a4 otherwise a6 otherwise a7)
      ∙ ap (λ (x : Option Numbered). unplaced a2 otherwise x)
      (unplaced-otherwise a4 (a6 otherwise a7)
      ∙ ap (λ (x : Option Numbered). unplaced a4 otherwise x) (unplaced-otherwise a6 a7))

-- the last counts only where the first is not given
pub last-counts : (a b c : Option Numbered) {x y : Option Numbered} → (a ≡ none → x ≡ y)
    → a otherwise b otherwise c otherwise x ≡ a otherwise b otherwise c otherwise y
unfolding ◌otherwise◌
last-counts none b c h = ap (λ (x : Option Numbered). b otherwise c otherwise x) (h refl)
last-counts (some r) b c h = refl
