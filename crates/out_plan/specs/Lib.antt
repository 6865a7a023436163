-- The text of a record. What is found where:
--   RecordText    the text of the plan that a whole record holds, out of its bytes
--   TextLength    how long that text is at most
--   HoldsRecord   when bytes hold a record, and the text then
pub mod RecordText
pub mod TextLength
pub mod HoldsRecord
