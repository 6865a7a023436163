-- Numbers of a width, written to a lent buffer. What is found where:
--   Written    bytes at the start of a buffer, and a part of it lent on
--   Placed     bytes at several places of a buffer
--   Number     what writing a number asks, and how many bytes numbers have
--   ReadBack   an unsigned number that was written is read back, and parts that follow each other
pub mod Written
pub mod Placed
pub mod Number
pub mod ReadBack
