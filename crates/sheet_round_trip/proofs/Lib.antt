-- What follows from the laws of specs/. It stands here, so that an edit of what it rests on is refused at the
-- declaration that fails.
--   Laws      T13.8: writing what a sheet reads as gives the sheet back, and is not refused
pub mod Laws
