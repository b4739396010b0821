-- Laws of the calls of a fed run.
pub mod WrittenLaws
pub mod FewLaws
pub mod CallLaws
pub mod ChunkLaws
