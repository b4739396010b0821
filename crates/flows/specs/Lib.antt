-- What flows in one step of a storage unit.
pub mod Flows
pub mod Posts
