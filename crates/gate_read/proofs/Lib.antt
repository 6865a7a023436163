-- What the proofs share.
--   Widened   a figure of an array, as one of 64 bits
pub mod Widened
