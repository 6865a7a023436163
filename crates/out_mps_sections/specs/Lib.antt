-- Sections of a free MPS text.
--   Sizes   what putting them asks
pub mod Sizes
