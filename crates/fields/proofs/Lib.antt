-- Laws about the run file's fields, for this crate's proofs and for those above it.
pub mod FieldLaws
pub mod TakenLaws
