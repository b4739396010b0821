-- Laws of whole fields taken into a state.
pub mod OpenLaws
pub mod MarkLaws
pub mod JointLaws
pub mod HeadLaws
pub mod KeepLaws
pub mod SiteLaws
pub mod StandLaws
pub mod RunLaws
pub mod TailLaws
pub mod AbsorbLaws
pub mod GrowLaws
pub mod TakeLaws
pub mod RestLaws
pub mod BothLaws
pub mod FeedLaws
