-- What the proofs share.
--   FieldsPut   the first figures of an array are written, and then one more
pub mod FieldsPut
