-- A sheet's bytes to its free MPS text.
--   Printed   a buffer that takes every text, and what is printed out of it
pub mod Printed
