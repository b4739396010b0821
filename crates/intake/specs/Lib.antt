-- Whole fields taken into a state: the parts of contracts by name.
pub mod Posts
