-- A sheet from plain arrays.
--   Ready   what writing it asks
--   Whole   the sizes and all entries are the sheet
pub mod Ready
pub mod Whole
