-- Laws about the run file's check, what an accepted file says and where, and rows of its units.
pub mod WalkLaws
pub mod CheckedLaws
pub mod PassedLaws
pub mod MissingLaws
pub mod ReachLaws
pub mod PlaceLaws
pub mod SaidLaws
pub mod ConnectionLaws
pub mod RoofLaws
pub mod FunctionLaws
pub mod StepLaws
pub mod SiteProved
pub mod SiteLaws
pub mod LoadLaws
pub mod AcceptedProved
