-- The counts of the six arrays, added up.
use Rattle.std.proofs.Common.{◌≡◌, ◌+◌, ◌≤◌, arith}
use Rattle.rules_arrays.specs.Arrays.{Arrays}
use Rattle.rules_arrays.specs.ReadBack.{present_in, figures_present}
use Rattle.sheet_write.specs.Ready.{Short}
use Rattle.sheet_write.proofs.count_entries.Goals as goal

-- all counts together are few
few : {A B : Arrays} → A ≡ B → Short B
    → present_in A.costs + present_in A.least_amounts + present_in A.most_amounts + present_in A.coefficients
    + present_in A.right_hand_sides + present_in A.starts ≤ 640
unfolding figures_present
few same h = (rw (← same) at h).short

pub overflow_add-result : goal.overflow_add-result
overflow_add-result c = record { fits = omega (arith, few c.arrays.view_is c.requires) }

pub overflow_add-result-2 : goal.overflow_add-result-2
overflow_add-result-2 c = record { fits = omega (arith, few c.arrays.view_is c.requires) }

pub overflow_add-result-3 : goal.overflow_add-result-3
overflow_add-result-3 c = record { fits = omega (arith, few c.arrays.view_is c.requires) }

pub overflow_add-result-4 : goal.overflow_add-result-4
overflow_add-result-4 c = record { fits = omega (arith, few c.arrays.view_is c.requires) }

pub overflow_add-result-5 : goal.overflow_add-result-5
overflow_add-result-5 c = record { fits = omega (arith, few c.arrays.view_is c.requires) }

pub returns : goal.returns
unfolding figures_present
returns c =
    rw (← c.arrays.view_is) (λ t.
    c.present_in.ensures t + c.present_in-2.ensures t + c.present_in-3.ensures t
    + c.present_in-4.ensures t + c.present_in-5.ensures t + c.present_in-6.ensures t)
