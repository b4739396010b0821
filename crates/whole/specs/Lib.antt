-- Whole numbers as the rules use them: ranges, quotients, sign and size, and the largest number that passes a test.
pub mod Interval
pub mod Call
pub mod Quotient
pub mod Signed
pub mod Largest
pub mod Circle
pub mod Over
