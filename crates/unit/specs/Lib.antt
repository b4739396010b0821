-- A storage unit: its values and their ranges.
pub mod Ranges
