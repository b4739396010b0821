-- Laws about a site, for the proofs above.
pub mod RangeLaws
