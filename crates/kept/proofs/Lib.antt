-- Laws about a state's bytes.
pub mod PieceLaws
pub mod StandLaws
pub mod NumberLaws
pub mod FitLaws
pub mod ListLaws
pub mod WellLaws
pub mod ReadLaws
pub mod BackLaws
pub mod FormedLaws
pub mod KeptLaws
