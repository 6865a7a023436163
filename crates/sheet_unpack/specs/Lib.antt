-- From a table to the arrays of the run.
--   Unpacked   what taking a row, the rows and a column asks
pub mod Unpacked
