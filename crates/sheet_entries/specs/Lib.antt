-- One entry of a sheet.
--   KeyRead     reading its key
--   EntryRead   reading its value
pub mod KeyRead
pub mod EntryRead
