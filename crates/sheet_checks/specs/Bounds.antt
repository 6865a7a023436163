-- The pass over the bounds: refusal 7.
use Rattle.std.specs.Prelude.{◌≡◌, List, ℕ, ◌≤◌, ℤ}
use Rattle.std.proofs.Math.Option.{Option}
use Rattle.std.proofs.Common.{arith}
use Rattle.std.specs.Int.Signed.{lt_z}
use Rattle.rules.specs.declared.Shape.{Shape}
use Rattle.rules.specs.Sheet.{Table}
use Rattle.rules.specs.Refusals.{Numbered, refuse, first_below, crossed, bound_refusal}
use Rattle.proof_laws.specs.FirstPlace.{first_cong}
use Rattle.sheet_table.specs.Tabled.{InTable, table_in, tabled}
use Rattle.sheet_table.proofs.Tabled.{same-figure}

-- the table has a column for each material
pub record FewMaterials (n : ℕ) : Type 0 where
  pub narrow : n ≤ 32

-- refusal 7, of a table in an array
unfoldable pub crossed_refusal : ℕ → List ℤ → Option Numbered
crossed_refusal n table = first_below n (λ j. refuse 7 j (crossed (table_in table) j))

-- a table's array says the same
pub crossed-is : (shape : Shape) (T : Table) → FewMaterials shape.materials
    → crossed_refusal shape.materials (tabled T) ≡ bound_refusal shape T
unfolding crossed_refusal bound_refusal crossed
crossed-is shape T few =
    first_cong shape.materials _ _ (λ j l.
    let narrow = few.narrow in
    let in_table : (row : ℕ) → row ≤ 2 → InTable row j =
    λ row r. record { row_in = omega arith; column-in = omega arith } in
    let most = same-figure (in_table 2 (omega arith)) T in
    let least = same-figure (in_table 1 (omega arith)) T in
    λ i. refuse 7 j (lt_z (most i) (least i)))
