-- Curves of points: their value anywhere, what their points must be, and how they lie in bytes.
pub mod Curve
pub mod Laws
pub mod Ranges
pub mod Layout
pub mod Posts
