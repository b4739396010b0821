-- Rescue of a damaged stick: what is kept of it, and what the calls answer and write.
pub mod Saved
pub mod Answers
pub mod Posts
