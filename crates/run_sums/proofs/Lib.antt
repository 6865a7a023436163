-- What the proofs share.
--   Turns   one turn of a loop that adds up terms, whatever the width
pub mod Turns
