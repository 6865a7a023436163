-- The entries of the arrays, row by row.
use Rattle.std.specs.Prelude.{ℤ, length}
use Rattle.std.proofs.Common.{le_refl, eq-or-lt_of_le, le_of_suc-le-suc, not-suc-le-zero}
use Rattle.std.proofs.Math.Logic.{inl, inr}
use mathlib.Core.List.{List, [], ◌++◌}
use Prim.Native.Nat.{ℕ, zero, suc, ◌+◌, ◌*◌, ◌<◌, ◌≤◌}
use native.Mathlib.Omega.{arith}
use Rattle.std.proofs.Math.ListN.{length-append}
use Rattle.rules.specs.Notation.{at}
use Rattle.rules.specs.declared.Shape.{Shape}
use Rattle.rules.specs.Sheet.{key_of}
use Rattle.rules_arrays.specs.Arrays.{Arrays}
use Rattle.sheet_arrays.specs.Runs.{Entry, entry, run}

-- those of n materials
unfoldable pub material_entries : ℕ → (costs least_amounts most_amounts : List ℤ) → List Entry
material_entries n costs least_amounts most_amounts =
    run (key_of 0 0) n (at costs) ++ run (key_of 1 0) n (at least_amounts) ++ run (key_of 2 0) n (at most_amounts)

module _ (n : ℕ) (coefficients right_hand_sides starts : List ℤ) where
  -- those of limit i
  unfoldable pub limit_entries : ℕ → List Entry
  limit_entries i =
      run (key_of (3 + i) 0) n (λ j. at coefficients (n * i + j))
      ++ entry (key_of (3 + i) n) (at right_hand_sides i)
      ++ entry (key_of (3 + i) (n + 1)) (at starts i)

  -- those of the first limits
  unfoldable pub limits_entries : ℕ → List Entry
  limits_entries zero = []
  limits_entries (suc i) = limits_entries i ++ limit_entries i

  -- those of one limit more are no more than those of all
  pub limits-grow : {i : ℕ} (m : ℕ) → i < m → length (limits_entries (suc i)) ≤ length (limits_entries m)
  unfolding limits_entries
  limits-grow {i} zero l = absurd (not-suc-le-zero l)
  limits-grow {i} (suc m) l = elim (eq-or-lt_of_le (le_of_suc-le-suc l)) [
    | inl e ↦ rw e (le_refl _)
    | inr k ↦ omega (arith, limits-grow m k, length-append (limits_entries m) (limit_entries m))
  ]

-- all of them
unfoldable pub entries_of : Shape → Arrays → List Entry
entries_of shape A =
    material_entries shape.materials A.costs A.least_amounts A.most_amounts
    ++ limits_entries shape.materials A.coefficients A.right_hand_sides A.starts shape.limits
