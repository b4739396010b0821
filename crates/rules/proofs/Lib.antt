-- Laws about the rules, for this crate's proofs and for those above it.
pub mod RuleLaws
