-- The first figures of an array, in bytes.
--   Fields   their bytes, and how many these are
pub mod Fields
