-- What the sums of products ask.
--   SumsFit   the places are there, and every term and every part of a sum fits its width
pub mod SumsFit
