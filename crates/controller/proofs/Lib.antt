-- Laws about the controller's definitions, for this crate's proofs and for those above it.
pub mod AlikeLaws
pub mod PassLaws
pub mod SoundLaws
pub mod AnswerLaws
pub mod OneSign
pub mod StandsLaws
pub mod OneNeedProved
