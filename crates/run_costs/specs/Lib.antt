-- What the costs are of, and what working them out asks.
--   Costs   the problem that has the lent costs, and that sums and products fit
--   OfRun   that they fit in the run of an accepted problem
pub mod Costs
pub mod OfRun
