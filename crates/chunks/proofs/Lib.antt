-- Laws about a run file that is cut into chunks.
pub mod SameLaws
pub mod FieldChunks
pub mod ReachChunks
pub mod PlaceChunks
pub mod HeadChunks
pub mod HeadFile
pub mod SiteChunks
pub mod StepChunks
pub mod CutProved
