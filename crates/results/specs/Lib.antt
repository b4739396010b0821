-- What a result says.
pub mod Says
