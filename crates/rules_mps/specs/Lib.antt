-- docs/TASK.md, T14, as definitions that compute: a sheet as free MPS. Read it after `rules`, whose head explains the
-- signs; who loads such a text into a solver must believe these too.
--   Mps     the text of a sheet, what writing it is refused with, and what batchmps prints
--   Texts   worked texts and refusals
pub mod Mps
pub mod Texts
