-- Whole fields taken into what is kept of a run, and a chunk.
pub mod Chunk
pub mod Posts
