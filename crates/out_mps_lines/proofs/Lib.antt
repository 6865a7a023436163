-- What the proofs share.
--   UnlessZero   the line of a figure that may be 0
pub mod UnlessZero
