-- The state of a run that is fed: what it holds, how it lies in bytes, and which bytes are a state.
pub mod Kept
pub mod Layout
pub mod Formed
pub mod Posts
