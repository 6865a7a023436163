-- A problem's figures in arrays.
--   Put       figures put into an array, one after the other
--   Padded    lists in arrays with more places
--   Figures   the arrays of a problem, and the problem that stands in arrays
pub mod Put
pub mod Padded
pub mod Figures
