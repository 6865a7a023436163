-- The chain finds the first material whose amounts cross.
use Rattle.std.proofs.Common.{◌≡◌, rules, sym, ap, ◌∙◌, true, false, ℤ, Err}
use borrow.Author.Tests.{tests}
use Rattle.std.proofs.lemmas.Iterator.{YieldsList-from_slice, YieldsList-from_zip, IsFirst-from_position}
use Rattle.rules.specs.Refusals.{refusal_of, numbered, number_of}
use Rattle.sheet_array_checks.proofs.Chains.{crosses, FirstCrossing, none-crosses, first-crosses}
use Rattle.sheet_array_checks.proofs.check_amounts.Goals.{After-position}
use Rattle.sheet_array_checks.proofs.check_amounts.Goals as goal

found : (c : After-position) → FirstCrossing c.args.least_amounts.now c.args.most_amounts.now c.position.result
found c =
    IsFirst-from_position c.position.new.self _ _ (λ (p : ℤ × ℤ). crosses p ≡ true) (λ (p : ℤ × ℤ). crosses p ≡ false)
    c.position.ensures.ran
    (YieldsList-from_zip (YieldsList-from_slice c.args.least_amounts.now cc)
    (YieldsList-from_slice c.args.most_amounts.now cc))
    (λ x q k. search (rules, tests)) (λ x q k. search (rules, tests))

pub returns-in-Some : goal.returns-in-Some
unfolding refusal_of numbered number_of
returns-in-Some c =
    ap (λ r. refusal_of (Err r)) c.at.ensures
    ∙ sym (first-crosses _ _ c.requires.as_many (rw c.in-Some.is at (found c.before.before)))

pub returns-in-None : goal.returns-in-None
unfolding refusal_of
returns-in-None c = sym (none-crosses _ _ c.requires.as_many (rw c.in-None.is at (found c.before)))
