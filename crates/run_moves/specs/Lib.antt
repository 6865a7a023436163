-- The move of the multipliers.
--   Moves   what it asks, and what it leaves
pub mod Moves
