-- The record of a plan whose figures stand in a head and arrays. What is found where:
--   RecordLength   how many bytes the record has
--   RecordParts    the plan that a head and arrays hold, and what writing its record asks
--   RecordedFits   what is read out of any bytes fits a record
--   RoundTrip      the plan that a record holds is the plan that was written
pub mod RecordLength
pub mod RecordParts
pub mod RecordedFits
pub mod RoundTrip
