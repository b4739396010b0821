-- Laws about verdicts.
pub mod AlikeLaws
pub mod PlacesLaws
pub mod FieldsLaws
pub mod JudgeLaws
pub mod GoingLaws
pub mod AnswerLaws
pub mod ShownLaws
pub mod MadeLaws
pub mod HoldsProved
