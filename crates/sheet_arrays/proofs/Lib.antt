-- What follows from the entries of the arrays. It stands here and not in specs/, so that an edit of what it rests on is
-- refused at the declaration that fails.
--   Listed     the entries of the arrays are those of their table
--   Counted    how many entries there are
--   Laid       the bytes of the sheet
--   Tested     refusal 6 of the table
--   Accepted   the length of the sheet of arrays that are not refused
pub mod Listed
pub mod Counted
pub mod Laid
pub mod Tested
pub mod Accepted
