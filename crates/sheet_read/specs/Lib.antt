-- What reading a sheet gives.
--   Reading    the figures, or a refusal; what `read_figures` and `read_sheet` promise
--   Agreeing   the figures of a sheet that is read are the sheet's own
pub mod Reading
pub mod Agreeing
