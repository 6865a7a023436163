-- What the proofs share.
--   Chain     the chain of refusals 1 to 7, and what is left of it after refusal 1
--   Passes    what each pass hands on of it
--   Outcome   a reading that ends with a refusal, and one that ends with none
pub mod Chain
pub mod Passes
pub mod Outcome
