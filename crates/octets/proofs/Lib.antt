-- Laws about the definitions of `specs/`, for this crate's proofs and for those above it.
pub mod ByteLaws
pub mod LaidLaws
pub mod NanLaws
