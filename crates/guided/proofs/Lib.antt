-- Laws of led steps.
pub mod SharedLaws
pub mod UnitLaws
pub mod LedProved
pub mod RowLaws
pub mod RoofLaws
pub mod LitProved
