-- Laws of whole fields taken into what is kept.
pub mod TookLaws
pub mod LedLaws
pub mod StageLaws
pub mod LeadLaws
pub mod TwiceLaws
pub mod FedLaws
pub mod SiteLaws
pub mod CountLaws
pub mod ChainLaws
pub mod PlacedLaws
pub mod DueLaws
pub mod StandsLaws
pub mod WellLaws
pub mod NumberLaws
