-- Laws about a fleet as a pass sees it, for this crate's proofs and for those above it.
pub mod FleetLaws
pub mod RequestLaws
pub mod DifferLaws
pub mod PlaceLaws
pub mod ColumnLaws
pub mod CallLaws
pub mod ShareLaws
