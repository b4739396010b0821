-- The controller: one pass, and what it refuses.
pub mod Ranges
pub mod Pass
pub mod OneNeed
pub mod OneSign
pub mod Posts
pub mod Answers
