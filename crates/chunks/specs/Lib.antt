-- A run file in chunks: how long its fields are at most, and what holds of bytes behind other bytes.
pub mod Sizes
pub mod Holds
