-- The definitions of `rules` held against a worked sheet of the largest sizes.
--   Largest   S6: the start of the last limit
pub mod Largest
