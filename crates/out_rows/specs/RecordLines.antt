-- The lines of materials and limits, out of the bytes of a record.
use Rattle.std.specs.Prelude.{ℕ, ◌+◌, ◌*◌, ◌≤◌, List, [], ◌∷◌, length, pos}
use Rattle.rules.specs.Bytes.{signed_at}
use Rattle.rules.specs.Record.{sums_at, multipliers_at}
use Rattle.rules.specs.Listing.{line}

-- the line of material j
unfoldable pub material_line : List ℕ → ℕ → List ℕ
material_line r j = line "mat" (pos j ∷ signed_at 4 r (sums_at + 4 * j) ∷ [])

-- the line of limit i, in a record with the places where its multipliers and its residual totals begin
unfoldable pub limit_line : List ℕ → ℕ → ℕ → ℕ → List ℕ
limit_line r multipliers totals i =
    line "lim" (pos i ∷ signed_at 4 r (multipliers + 4 * i) ∷ signed_at 8 r (totals + 8 * i) ∷ [])

-- the sums of the first n materials stand in the bytes
pub record MaterialsInside (r : List ℕ) (n : ℕ) : Type 0 where
  pub few : n ≤ 32
  pub whole : multipliers_at n ≤ length r

-- the figures of the first m limits stand in the bytes
pub record LimitsInside (r : List ℕ) (multipliers totals m : ℕ) : Type 0 where
  pub few : m ≤ 16
  pub multipliers-inside : multipliers + 4 * m ≤ length r
  pub totals-inside : totals + 8 * m ≤ length r
