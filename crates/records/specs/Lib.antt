-- The result file's records.
pub mod Records
