-- Laws about the study and the settling law, and the law proved.
pub mod SumLaws
pub mod DifferenceLaws
pub mod SettlingSteps
pub mod SettlingStill
pub mod SettlingPass
pub mod SettlingProved
pub mod StudyProved
pub mod StudyLaws
pub mod ClosedLaws
pub mod ClosingSteps
pub mod ClosingProved
pub mod StoppedProved
pub mod TrialLaws
pub mod AnswerLaws
