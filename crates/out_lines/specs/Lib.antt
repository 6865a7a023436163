-- Lines of a listing. What is found where:
--   Lines        a line by its word's bytes, a text from place 0 on, and laws of both
--   LineLength   how long a line is at most
--   ManyLines    lines that agree, and a loop that puts one line after another
pub mod Lines
pub mod LineLength
pub mod ManyLines
