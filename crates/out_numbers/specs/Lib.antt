-- Numbers in decimal.
--   DecimalLength   how long a number is in decimal
pub mod DecimalLength
