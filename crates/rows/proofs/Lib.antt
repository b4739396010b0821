-- Laws about rows of units that other proofs cite.
pub mod RowLaws
