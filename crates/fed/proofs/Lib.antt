-- The theorems.
pub mod CallLaws
pub mod ChunkLaws
pub mod FedProved
pub mod KnownLaws
