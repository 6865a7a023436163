-- A sheet that is written from sizes and a table. What a reader looks for:
--   ReadBack     what is written is read back, and how long it is
--   Accepted     a sheet that is read is what is written of its own sizes and table
--   Same         the figures of a sheet that is read decide its bytes
--   Refused      what is written is refused by the reader as the table is
-- What these stand on, beside specs/:
--   Under        what stands under keys that rise
--   Support      keys that rise are the support of their table
--   Single       bytes with rising keys and no value 0 are what is written of their table
--   Dimensions   n and m alone decide whether the dimensions are in their ranges
-- They stand here and not in specs/, so that an edit of what they rest on is refused at the declaration that fails.
pub mod Under
pub mod Support
pub mod ReadBack
pub mod Single
pub mod Accepted
pub mod Same
pub mod Dimensions
pub mod Refused
