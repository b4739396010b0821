-- The layouts said forwards, and what holds of them.
pub mod Written
pub mod Layout
pub mod Ranges
pub mod Holds
