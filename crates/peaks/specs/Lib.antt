-- The figures of a season.
pub mod Figures
pub mod Answers
pub mod Holds
pub mod Posts
