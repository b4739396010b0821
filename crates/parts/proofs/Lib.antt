-- Laws about the parts.
pub mod PartLaws
pub mod ReaderLaws
