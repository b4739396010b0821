-- The mirror's laws, proved.
pub mod NegativeLaws
pub mod MirrorProved
