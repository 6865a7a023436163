-- What the programs of the gate share. What is found where:
--   Frames   where the sheet of a frame lies in the input
--   Next     the frames of an input, one after the other
--   Shown    what is lent, and how what comes back is shown
pub mod Frames
pub mod Next
pub mod Shown
