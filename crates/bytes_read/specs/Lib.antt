-- What reading a number asks of a slice, and what it gives.
--   Inside   a number of w bytes at a place
--   Width    laws over the width
pub mod Inside
pub mod Width
