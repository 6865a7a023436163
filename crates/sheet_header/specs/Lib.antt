-- The header of a sheet.
--   Header   what is read of a header, and what a sheet that passed refusals 2 to 4 has
pub mod Header
