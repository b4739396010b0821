-- One step of every inverter.
pub mod Roofs
pub mod Posts
