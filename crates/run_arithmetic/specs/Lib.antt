-- What adding a product asks.
--   Products   a product and its sum fit a width
pub mod Products
