-- Laws about the definitions of `specs/`, for this crate's proofs and for those above it; and what a planner relies on, proved from them.
pub mod GridLaws
pub mod StepLaws
pub mod KindLaws
pub mod GivingLaws
pub mod ReliedLaws
pub mod ReliedProved
