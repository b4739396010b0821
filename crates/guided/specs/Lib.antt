-- One step of a unit and of an inverter that a voltage leads.
pub mod Units
pub mod Roofs
pub mod Posts
