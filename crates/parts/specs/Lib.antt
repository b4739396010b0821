-- A field's header, and the support screen's part.
pub mod Header
pub mod Parts
