-- Laws about the steps in a stretch of a run file, and where a file's fields make one.
pub mod AppendLaws
pub mod FieldLaws
pub mod ClosedLaws
pub mod PartLaws
pub mod HoldLaws
pub mod AlongLaws
pub mod CutLaws
pub mod ReachedLaws
pub mod AcceptedLaws
pub mod RoofLaws
pub mod SiteLaws
