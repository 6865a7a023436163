-- What the proofs share.
--   Floor   the least key that an entry may have
pub mod Floor
