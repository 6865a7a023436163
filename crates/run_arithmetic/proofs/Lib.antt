-- What the crates above share.
--   Places    the number that an element of a list stands for is that of its place
--   Maximum   the library's maximum of two is that of the rules
pub mod Places
pub mod Maximum
