-- Putting the rows of a sheet into a lent buffer.
--   Ready   the entries of the rows, and what putting them asks
pub mod Ready
