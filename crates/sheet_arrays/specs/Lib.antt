-- A sheet's figures in plain arrays.
--   Runs       the entries of figures under consecutive keys
--   Gathered   the table of the arrays at each row and column
--   Listed     the entries of the arrays, row by row
--   Lengths    the lengths of the arrays
--   Counted    how many entries runs and limits have
--   Tested     refusal 6, array by array
--   Laid       the bytes of the entries
--   Accepted   arrays that are not refused
pub mod Runs
pub mod Gathered
pub mod Listed
pub mod Lengths
pub mod Counted
pub mod Tested
pub mod Laid
pub mod Accepted
