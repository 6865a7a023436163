-- What holds where a chain of refusals gives one with some number: it holds where a test of the chain that gives this
-- number is met.
use Rattle.std.specs.Prelude.{◌≡◌, Bool, List, T, leb}
use Rattle.std.proofs.Math.Path.{refl}
use Rattle.std.proofs.Math.Bool.{true, false}
use Rattle.std.proofs.Math.Option.{Option, none, some}
use Prim.Native.Nat.{ℕ, zero, suc, ◌<◌, ◌≤◌}
use Rattle.std.proofs.Common.{arith}
use Rattle.std.proofs.Math.Facts.{leb_yes}
use Rattle.rules.specs.Refusals.{Numbered, refuse, ◌otherwise◌, first_below, layout_refusal}
use Rattle.rules.specs.Refusals.{sizes_refusal, key_refusal, value_refusal, bound_refusal}

-- where the refusal with number c is given, A holds
abbrev pub Given : ℕ → Type 0 → Option Numbered → Type 0
Given c A none = Unit {0}
Given c A (some r) = r.number ≡ c → A

module _ (c : ℕ) (A : Type 0) where
  -- a later refusal is given only where there is none before
  pub otherwise-given : (a b : Option Numbered) → Given c A a → (a ≡ none → Given c A b) → Given c A (a otherwise b)
  unfolding ◌otherwise◌
  otherwise-given none b first second = second refl
  otherwise-given (some r) b first second = first

  pub first-given : (n : ℕ) (test : ℕ → Option Numbered) → ((i : ℕ) → Given c A (test i))
      → Given c A (first_below n test)
  unfolding first_below
  first-given zero test h = tt
  first-given (suc n) test h = otherwise-given (first_below n test) (test n) (first-given n test h) (λ _. h n)

  pub refuse-given : (number place : ℕ) (test : Bool) → (T test → number ≡ c → A)
      → Given c A (refuse number place test)
  unfolding refuse
  refuse-given number place true h = h tt
  refuse-given number place false h = tt

  -- ---- T7.4: the numbers of the layout are at most 7, so that nothing above is given there
  refuse-small : 7 < c → (number place : ℕ) (test : Bool) → T (leb number 7) → Given c A (refuse number place test)
  refuse-small above number place test few =
      let small : number ≤ 7 = leb_yes few in
      refuse-given number place test (λ _ e. absurd (omega arith))

  pub layout-given : 7 < c → (s : List ℕ) → Given c A (layout_refusal s)
  unfolding layout_refusal sizes_refusal key_refusal value_refusal bound_refusal
  layout-given above s = search (otherwise-given, first-given, refuse-small) depth 20
