-- The run of a file, and what it answers for any bytes and any room.
pub mod Run
pub mod Answers
pub mod Holds
pub mod Posts
