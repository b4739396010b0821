-- Rows of storage units.
pub mod Rows
