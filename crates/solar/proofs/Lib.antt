-- Laws about a roof in its ranges, the powers of a step, the weather, curves laid one behind the other, and what a planner relies on.
pub mod RoofLaws
pub mod PowerLaws
pub mod SkyLaws
pub mod StepLaws
pub mod LaidLaws
pub mod AnswerLaws
pub mod ReliedProved
