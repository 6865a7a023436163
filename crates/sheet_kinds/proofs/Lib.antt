-- What the proofs share.
--   RowKinds   what stands in a row of materials, in the row of a limit, and above
pub mod RowKinds
