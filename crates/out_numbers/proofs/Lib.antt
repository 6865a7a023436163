-- What the proofs share.
--   Digits      the digits of a number from its last on, and how many there are
--   LastFirst   bytes that are put from their last one on
pub mod Digits
pub mod LastFirst
