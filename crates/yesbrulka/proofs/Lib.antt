-- Laws about the calls of the C surface.
pub mod CallLaws
