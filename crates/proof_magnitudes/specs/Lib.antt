-- How large the figures of a run become (T5.6), of every sheet that is read. The code rests on this, and not on the
-- theorem of T9.3 to T9.7.
--   Accepted        the ranges of a sheet that is read
--   Minimal         which end of its bounds a material takes: source document 004, equation (8)
--   CostRange       the ends of the cheapest and the greatest cost that the bounds leave, and the range between
--   Steps           the run's looks and totals, by their formulas
--   Opening         what multipliers of 0 make of a step's figures
--   Magnitudes      the figures of a step: the statement, and costs and residuals
--   RunMagnitudes   the figures of a run and of its plan: the statement
--   PlanFits        figures that fit the bytes that a record has for them: the statement
--   LongestRecord   the longest record, and an answer that is not refused with 8
-- The theorems `magnitudes` and `magnitudes-of-plan`, and what rests on the above, are listed in proofs/Lib.
-- Of a step, M are the multipliers that enter it (times D), and x its amounts. A point y/d has the
-- whole amounts y over the divisor d.
pub mod Accepted
pub mod Minimal
pub mod CostRange
pub mod Steps
pub mod Opening
pub mod Magnitudes
pub mod RunMagnitudes
pub mod PlanFits
pub mod LongestRecord
