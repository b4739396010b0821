-- Laws about the definitions of `specs/`, for this crate's proofs and for those above it.
pub mod Choice
pub mod SignLaws
pub mod QuotientLaws
pub mod LargestLaws
mod BitLaws
pub mod ChainLaws
pub mod CircleLaws
pub mod OverLaws
