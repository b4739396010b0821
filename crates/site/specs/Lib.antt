-- A site and its steps, and a site in its ranges.
pub mod Site
pub mod Ranges
