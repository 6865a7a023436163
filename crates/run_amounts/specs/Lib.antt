-- What the functions ask that work out amounts.
--   Amounts   there is room, and every term, part of a sum and result fits its width
pub mod Amounts
