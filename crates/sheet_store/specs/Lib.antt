-- What storing the entries asks and gives.
--   Values   refusal 6, and the table while the entries are stored
pub mod Values
