-- What a look and a step ask and hand back.
--   States    the state in arrays, and what steps and looks hand back
--   Reached   what a run asks of the figures, a state that its steps lead to, and the end of a run
--   Looked    what a look hands back
--   Stops     what steps and looks hand back, at a refusal and at none
--   Reads     the arrays of a state read as its lists
--   Fitting   what the functions of a step ask follows from the magnitudes of the run
--   Looks     the look that the code makes is the look of the run
pub mod States
pub mod Reached
pub mod Looked
pub mod Stops
pub mod Reads
pub mod Fitting
pub mod Looks
