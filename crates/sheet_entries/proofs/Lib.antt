-- What the proofs share.
--   Tests   what the tests that the code makes say of a key and of an entry
pub mod Tests
