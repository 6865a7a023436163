-- What the sums of products ask: that the places are there, and that every term and every part of a sum fits its width.
use Rattle.std.specs.Prelude.{List, ℕ, ◌+◌, ◌*◌, ◌≤◌, ◌<◌, ℤ, ◌+ℤ◌, ◌*ℤ◌, length}
use Rattle.std.specs.Int.{Width, w64}
use Rattle.std.proofs.Common.{SFits}
use Rattle.rules.specs.Notation.{sum_to, at}

-- a sum of the first `count` terms, begun at `first`
pub record SumFits (w : Width) (first : ℤ) (term : ℕ → ℤ) (count : ℕ) : Type 0 where
  pub one : (i : ℕ) → i < count → SFits w (term i)
  pub part : (i : ℕ) → i ≤ count → SFits w (first +ℤ sum_to i term)

-- `dot`, in width w
pub record PairsFit (w : Width) (count : ℕ) (first : ℤ) (x y : List ℤ) : Type 0 where
  pub in_x : count ≤ length x
  pub in_y : count ≤ length y
  pub sum : SumFits w first (λ i. at x i *ℤ at y i) count

-- `dot_column_64`
pub record ColumnFits (m : ℕ) (first : ℤ) (x a : List ℤ) (from stride : ℕ) : Type 0 where
  pub few : m ≤ length x
  pub inside : (i : ℕ) → i < m → from + stride * i < length a
  pub sum : SumFits w64 first (λ i. at x i *ℤ at a (from + stride * i)) m
