-- What the proofs share.
--   OneStep   one turn of the run, and the closing look after the last
pub mod OneStep
