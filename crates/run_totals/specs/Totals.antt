-- Totals with one more of each ask that they are there, as what is added is, and that the sums fit their width.
use Rattle.std.specs.Prelude.{ℕ, ◌≤◌, ◌<◌, ℤ, ◌+ℤ◌}
use Rattle.std.specs.Int.{Width}
use Rattle.std.proofs.Common.{SFits}

pub record TotalsFit (w : Width) (room given n : ℕ) (total more : ℕ → ℤ) : Type 0 where
  pub few : n ≤ room
  pub enough : n ≤ given
  pub one : (j : ℕ) → j < n → SFits w (total j +ℤ more j)
