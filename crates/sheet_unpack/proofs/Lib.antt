-- What the proofs share.
--   Parts   figures put into a part of an array that was lent
pub mod Parts
