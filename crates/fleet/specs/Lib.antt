-- One step of a site.
pub mod Step
pub mod Posts
