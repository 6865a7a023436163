-- What follows where nothing is refused: no test of the chain of refusals was met, at any place.
use Rattle.std.specs.Prelude.{◌≡◌, refl, Bool, true, false, not, ℕ, zero, suc, ◌<◌, T}
use Rattle.std.proofs.Math.Option.{Option, none, some, some-ne-none}
use Rattle.rules.specs.Refusals.{Numbered, refuse, ◌otherwise◌, first_below}
use Rattle.proof_laws.specs.Below.{below-zero, below_suc}

pub otherwise-none : (a b : Option Numbered) → a otherwise b ≡ none → (a ≡ none) × (b ≡ none)
unfolding ◌otherwise◌
otherwise-none none b h = (refl, h)
otherwise-none (some r) b h = absurd (some-ne-none r h)

pub refuse-none : (number place : ℕ) (test : Bool) → refuse number place test ≡ none → T (not test)
unfolding refuse
refuse-none number place true h = absurd (some-ne-none _ h)
refuse-none number place false h = tt

pub refuse-false : (number place : ℕ) (test : Bool) → refuse number place test ≡ none → test ≡ false
unfolding refuse
refuse-false number place true h = absurd (some-ne-none _ h)
refuse-false number place false h = refl

pub first-none : (n : ℕ) (test : ℕ → Option Numbered) → first_below n test ≡ none → (i : ℕ) → i < n → test i ≡ none
unfolding first_below
first-none zero test h = below-zero (λ i. test i ≡ none)
first-none (suc n) test h =
    let (before, here) = otherwise-none (first_below n test) (test n) h in
    below_suc n (λ i. test i ≡ none) (first-none n test before) here
