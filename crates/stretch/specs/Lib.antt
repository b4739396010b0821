-- The steps in a stretch of a run file.
pub mod Stretch
pub mod Posts
