-- A number of w bytes at place o of s: what reading it asks and gives.
use Rattle.std.specs.Prelude.{ℕ, ◌+◌, ◌^◌, ◌<◌, ◌≤◌, ◌≡◌, List, length}
use Rattle.rules.specs.Bytes.{unsigned_at}

-- a number has 1 to 8 bytes
pub record Width (w : ℕ) : Type 0 where
  pub some : 0 < w
  pub narrow : w ≤ 8

-- and they stand in s
pub record Inside (w : ℕ) (s : List ℕ) (o : ℕ) : Type 0 where
  pub width : Width w
  pub ends : o + w ≤ length s

-- r is the unsigned number in w bytes, and so below 256^w
pub record ReadUnsigned (w : ℕ) (s : List ℕ) (o r : ℕ) : Type 0 where
  pub is : r ≡ unsigned_at w s o
  pub small : r < 256 ^ w

-- v is a number of w bytes
pub record InWidth (w v : ℕ) : Type 0 where
  pub width : Width w
  pub small : v < 256 ^ w
