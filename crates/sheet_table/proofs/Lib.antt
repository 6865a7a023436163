-- What is so of the table of a sheet's figures in an array. It stands here and not in specs/, so that an edit of what
-- it rests on is refused at the declaration that fails.
--   Tabled   what stands at each place, and what storing one figure changes
pub mod Tabled
