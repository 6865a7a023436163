-- What the proofs of several functions rest on.
--   Parts   entries that are put part by part
pub mod Parts
