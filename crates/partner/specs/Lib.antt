-- A partner's result beside the run file.
pub mod Verdict
pub mod Shown
pub mod Holds
pub mod Posts
