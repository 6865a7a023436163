-- What the exported functions promise.
--   Called      the answer to a sheet in plain numbers
--   Wrote       what writing a sheet gives in plain numbers
--   WroteText   what writing a text gives in plain numbers
pub mod Called
pub mod Wrote
pub mod WroteText
