-- docs/TASK.md, T13, as definitions that compute: a sheet from plain arrays. Read it after `rules`, whose head explains
-- the signs; a reader must believe these too.
--   Arrays     a sheet written from plain arrays
--   ReadBack   the terms in which T13.7 to T13.10 are said
--   Drafts     W1 to W3: sheets written from arrays, and arrays that are refused
pub mod Arrays
pub mod ReadBack
pub mod Drafts
