-- Laws about the figures of some steps.
pub mod TallyLaws
pub mod FewLaws
pub mod ListLaws
