-- Lines of single figures of a record.
--   StepsLine   the line of the step count, out of the bytes of a record
pub mod StepsLine
