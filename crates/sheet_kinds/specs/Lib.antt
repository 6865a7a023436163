-- What stands at a row and a column of a sheet.
--   Meaning   what stands at a row and a column
pub mod Meaning
