-- The table of a sheet's figures in an array.
--   Tabled   its places, its array, and the table of an array
pub mod Tabled
