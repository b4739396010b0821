-- A storage unit: its values and ranges, one step of it, and what a planner relies on.
pub mod Ranges
pub mod Step
pub mod Answers
pub mod Relied
pub mod Posts
