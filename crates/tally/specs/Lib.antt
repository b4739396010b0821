-- The figures of some steps.
pub mod Tally
pub mod Posts
