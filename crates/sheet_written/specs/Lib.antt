-- A sheet that is written from sizes and a table. What a reader looks for is listed in proofs/Lib, but for Shaped and
-- BytesFit here; the others are what these stand on.
--   Lists        lists that grow, rise, or are given place by place
--   Picked       the numbers below n that pass a test
--   Laid         numbers laid one after the other
--   Pieces       bytes are the bytes of the numbers that they are read as
--   Layout       sizes, keys and values laid out, read, and given back
--   Under        what stands under a key, by the entries
--   Support      the keys of a table that have an entry
--   Listed       entries with a table's keys and figures give the table back
--   ReadBack     sizes and figures that fit a sheet, and bytes that are read as a table
--   Shaped       a table that is 0 where its shape has no figure, and how many keys it has
--   Unplaced     refusals with the place 0 for 6
--   AtKeys       tests at every place, and at the keys of a table
--   BytesFit     the sizes and the table of any bytes fit a sheet
pub mod Lists
pub mod Picked
pub mod Laid
pub mod Pieces
pub mod Layout
pub mod Under
pub mod Support
pub mod Listed
pub mod ReadBack
pub mod Shaped
pub mod Unplaced
pub mod AtKeys
pub mod BytesFit
