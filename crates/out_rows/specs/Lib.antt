-- Lines of the materials and the limits of a record.
--   RecordLines   the lines, and what putting them asks
pub mod RecordLines
