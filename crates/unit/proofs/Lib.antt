-- Laws about a unit's values that other proofs cite.
pub mod RangeLaws
