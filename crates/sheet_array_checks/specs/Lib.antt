-- The tests of figures in plain arrays.
--   Checks   the refusals, and what their tests ask
pub mod Checks
