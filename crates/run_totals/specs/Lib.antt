-- What a step adds in place.
--   Changed   an array changed in place, at its first places
--   Totals    totals with one more of each
pub mod Changed
pub mod Totals
