-- Laws about the definitions of `specs/`.
pub mod RecordLaws
pub mod FitLaws
pub mod StandLaws
pub mod PlaceLaws
pub mod ResultProved
