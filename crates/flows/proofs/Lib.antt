-- Laws about what flows, for this crate's proofs and for those above it.
pub mod FlowLaws
