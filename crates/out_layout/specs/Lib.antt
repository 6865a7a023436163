-- The places of a record.
--   RecordSizes   what its functions ask
pub mod RecordSizes
