-- The ends of the bounds that weights choose.
--   Ends         the end that a weight chooses
--   SignedEnds   the ends that the costs choose, or their opposites, and what choosing them asks
pub mod Ends
pub mod SignedEnds
