-- What the proofs share.
--   Copied   a text that is put into room of its own, and copied
pub mod Copied
