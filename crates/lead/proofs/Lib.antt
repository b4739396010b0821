-- Laws of the vars requested.
pub mod LeadLaws
pub mod LeadProved
pub mod FunctionLaws
