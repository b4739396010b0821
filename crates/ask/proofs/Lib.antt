-- Laws about what a file says.
pub mod SaysLaws
pub mod FleetLaws
pub mod StudyLaws
