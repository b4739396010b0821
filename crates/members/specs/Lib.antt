-- A fleet as a pass sees it: its ranges and its sums.
pub mod Ranges
pub mod Sums
pub mod Posts
