-- How large the figures of a run become (T5.6), of every sheet that is read, and what follows. The definitions are in
-- specs/; these theorems stand here, so that an edit of what they rest on is refused at the declaration that fails.
--   Accepted         a sheet that is read has the ranges of `Accepted`
--   CostRange        no point within the bounds costs less than the cheapest cost, and none more than the greatest
--   Steps            the amounts of a step are minimal
--   Opening          the lower bound before any step, and after step 0 where multipliers begin at 0
--   Magnitudes       the figures of a step
--   RunMagnitudes    `run-magnitudes`, the figures of a run
--   SheetMagnitudes  `plan-magnitudes`, those of its plan; `magnitudes` and `magnitudes-of-plan`, by a sheet's bytes
--   PlanFits         the figures of a plan fit the bytes that a record has for them
--   LongestRecord    in a buffer that takes the longest record, no sheet is refused with 8
pub mod Accepted
pub mod CostRange
pub mod Steps
pub mod Opening
pub mod Magnitudes
pub mod RunMagnitudes
pub mod SheetMagnitudes
pub mod PlanFits
pub mod LongestRecord
