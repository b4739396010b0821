-- Charging as the mirror image of discharging.
pub mod Mirror
