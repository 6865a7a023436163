-- What a look at multipliers asks and gives.
--   Given      a look in arrays
--   LookFits   every term, part of a sum and result fits its width
pub mod Given
pub mod LookFits
