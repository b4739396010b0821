-- Voltage-led vars: what leads a step, and what is then requested.
pub mod Lead
pub mod Laws
pub mod Posts
