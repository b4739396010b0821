-- Laws about the conversion and the phase choice, for this crate's proofs and for those above it.
pub mod NearestLaws
pub mod NearestProved
pub mod DoubleLaws
pub mod PatternLaws
pub mod ChoiceLaws
pub mod MeasureLaws
