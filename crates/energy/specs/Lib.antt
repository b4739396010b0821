-- What limits one step of a storage unit, and what edition 1 rests on.
pub mod Limits
pub mod Editions
