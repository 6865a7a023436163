-- The chain tests each figure of the list.
use Rattle.std.proofs.Common.{rules, ◌∙◌}
use borrow.Author.Tests.{tests}
use Rattle.std.proofs.lemmas.Iterator.{YieldsList-from_slice}
use Rattle.std.proofs.lemmas.Iterator.Search.{any_from_yields_List}
use Rattle.sheet_arrays.specs.Tested.{outside, any_outside}
use Rattle.sheet_array_checks.proofs.Chains.{any-is}
use Rattle.sheet_array_checks.proofs.any_outside.Goals as goal

pub returns : goal.returns
unfolding any_outside
returns c =
    any_from_yields_List (outside c.args.kind) _ _ _ c.any.ensures.ran (YieldsList-from_slice c.args.figures.now cc)
    (λ x b q k. search (rules, tests))
    ∙ any-is (outside c.args.kind) c.args.figures.now
