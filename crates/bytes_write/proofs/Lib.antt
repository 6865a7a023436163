-- What follows from a number that is read back. It stands here and not in specs/, so that an edit of what it rests on
-- is refused at the declaration that fails.
--   ReadBack   numbers and figures that were written are read back
pub mod ReadBack
