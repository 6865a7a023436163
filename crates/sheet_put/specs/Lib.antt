-- Putting the entries of a sheet into a lent buffer.
--   Put     what a buffer holds once entries are put, and entries after entries
--   Ready   what putting entries asks
pub mod Put
pub mod Ready
