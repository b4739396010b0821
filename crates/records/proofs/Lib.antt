-- Laws about laying bytes behind others, and the records' lengths.
pub mod LayLaws
