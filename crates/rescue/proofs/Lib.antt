-- Laws of a rescue's walk, of what it writes, and of its calls.
pub mod SaveLaws
pub mod GroupLaws
pub mod ListLaws
pub mod WalkLaws
pub mod PutLaws
pub mod CallLaws
