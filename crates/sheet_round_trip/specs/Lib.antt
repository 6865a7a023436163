-- A sheet that is written from plain arrays: what is promised of it.
--   Fits      sizes and figures that fit the bytes of a sheet
--   Figures   the figures of a problem and of arrays, by row and column
--   Own       a problem's figures in plain arrays
--   Laws      T13.7 to T13.10, but for the second half of T13.8, which stands in proofs/Laws
pub mod Fits
pub mod Figures
pub mod Own
pub mod Laws
