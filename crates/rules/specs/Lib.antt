-- What a pass goes by: its settings, and its rules over plain numbers.
pub mod Ranges
pub mod Rules
pub mod Posts
