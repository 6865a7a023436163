-- What the proofs share.
--   Shifted   a number of w bytes, shifted up to the sign bit and down again
pub mod Shifted
