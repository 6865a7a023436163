-- What the proofs share.
--   Ending   how planning ends, and the promise from that
--   Sheets   the figures of a sheet that is read, in arrays, give the sheet's own run
pub mod Ending
pub mod Sheets
