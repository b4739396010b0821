-- The settling study, what it answers, and the settling law.
pub mod Study
pub mod Answers
pub mod Posts
pub mod Settling
pub mod Closing
