-- What the proofs share.
--   Alike   amounts that are the same at every material have the same cost
--   Signs   the ends by the sign of a cost
--   Sums    the products that the code adds are those of the cost of the sums
pub mod Alike
pub mod Signs
pub mod Sums
