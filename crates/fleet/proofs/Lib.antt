-- Laws about one step of a site.
pub mod UnitLaws
pub mod SiteLaws
pub mod StepLaws
pub mod UsedLaws
