-- What stands at each place of a table's array, and what storing one figure changes.
use Rattle.std.specs.Prelude.{◌≡◌, refl, ℕ, ◌+◌, ◌<◌, ◌≤◌, ℤ, set}
use Rattle.std.proofs.Math.Path.{ap}
use Rattle.std.proofs.Common.{◌∙◌, arith}
use Rattle.rules.specs.declared.Sizes.{Sizes}
use Rattle.rules.specs.Notation.{at}
use Rattle.rules.specs.Sheet.{Table, key_of, problem_from}
use Rattle.proof_laws.specs.Agreeing.{Agree}
use Rattle.proof_integer.specs.Vector.{at-tabulate}
use Rattle.proof_integer.specs.Tabulated.{tabulate-set}
use Rattle.sheet_table.specs.Tabled.{InTable, place_at, key_in, table_in, table_at, tabled, place-below}

module _ {row column : ℕ} (h : InTable row column) where
  -- the key of the place of a row and a column
  key_back : key_in (place_at row column) ≡ key_of row column
  key_back = omega (arith, h.column-in)

  -- what stands at a row and a column
  pub at-tabled : (T : Table) → at (tabled T) (place_at row column) ≡ T (key_of row column)
  unfolding tabled
  at-tabled T = at-tabulate 646 (λ x. T (key_in x)) (place_at row column) (place-below h) ∙ ap T key_back

  -- and that stands there for the array's own table
  pub same-figure : (T : Table) → table_in (tabled T) (key_of row column) ≡ T (key_of row column)
  same-figure T = table_at (tabled T) row h.column-in ∙ at-tabled T

  -- one figure stored, where those under other keys stay
  pub tabled-set : (T U : Table) {v : ℤ} → v ≡ U (key_of row column)
      → ((key : ℕ) → (key ≡ key_of row column → ⊥) → T key ≡ U key)
      → set (tabled T) (place_at row column) v ≡ tabled U
  unfolding tabled
  tabled-set T U {v} e others =
      let here : v ≡ U (key_in (place_at row column)) = rw key_back e in
      tabulate-set 646 (λ x. T (key_in x)) (λ x. U (key_in x)) (place-below h) here
      (λ y _ o. others (key_in y) (other y o))
    where
      other : (y : ℕ) → (y ≡ place_at row column → ⊥) → key_in y ≡ key_of row column → ⊥
      other y o q = o (omega (arith, h.column-in))

-- a table and its array give the same figures
pub table-agrees : (z : Sizes) (T : Table) → z.shape.materials ≤ 32 → z.shape.limits ≤ 16
    → Agree (problem_from z (table_in (tabled T))) (problem_from z T)
unfolding problem_from
table-agrees z T narrow few =
    let n = z.shape.materials in
    let of-material : (row : ℕ) → row ≤ 2 → (j : ℕ) → j < n → InTable row j =
    λ row r j l. record { row_in = omega arith; column-in = omega arith } in
    let of-limit : (column : ℕ) → column ≤ n + 1 → (i : ℕ) → i < z.shape.limits → InTable (3 + i) column =
    λ column c i l. record { row_in = omega arith; column-in = omega arith } in
    record {
      materials = refl;
      limits = refl;
      numerator = refl;
      scale = refl;
      cost = λ j l. same-figure (of-material 0 (omega arith) j l) T;
      least = λ j l. same-figure (of-material 1 (omega arith) j l) T;
      most = λ j l. same-figure (of-material 2 (omega arith) j l) T;
      coefficient = λ i j h l. same-figure (of-limit j (omega arith) i h) T;
      rhs = λ i h. same-figure (of-limit n (omega arith) i h) T;
      starting_multiplier = λ i h. same-figure (of-limit (n + 1) (omega arith) i h) T;
    }
