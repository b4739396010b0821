-- Solar inverters: their ranges, the weather, one step, what a planner relies on, and what a call answers.
pub mod Roof
pub mod Weather
pub mod Step
pub mod Relied
pub mod Answers
pub mod Posts
