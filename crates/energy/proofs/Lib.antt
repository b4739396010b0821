-- Laws about a unit's limits, for this crate's proofs and for those above it.
pub mod EnergyLaws
pub mod LimitLaws
