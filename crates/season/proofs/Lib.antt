-- Laws about the run and its answers.
pub mod RunLaws
pub mod AnswerLaws
pub mod StepsLaws
pub mod LoadLaws
pub mod UsedLaws
pub mod HoldsProved
