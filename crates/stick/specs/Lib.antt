-- The run file: the check of any bytes, and what an accepted file says: a site and its steps.
pub mod Check
pub mod Known
pub mod Site
pub mod Accepted
pub mod Posts
