-- The free MPS text of a problem.
--   Halves     the text in two parts
--   Agreeing   problems that agree have the same text
--   Widths     how long a line is, and lines with rising numbers
--   Longest    how long the text is at most
pub mod Halves
pub mod Agreeing
pub mod Widths
pub mod Longest
