-- A run fed in chunks: what the calls answer and leave.
pub mod Answers
