-- What a file says, asked of any bytes.
pub mod Says
pub mod Posts
