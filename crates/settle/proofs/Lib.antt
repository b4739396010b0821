-- The laws that the proofs of this program share.
pub mod KnownLaws
