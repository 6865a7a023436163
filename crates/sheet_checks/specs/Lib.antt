-- What the checks of keys and bounds ask and give.
--   Keys     refusal 5, and what a sheet that passed it has
--   Bounds   refusal 7
pub mod Keys
pub mod Bounds
