-- Why the figures of a season are right.
pub mod UnitLaws
pub mod GiveLaws
pub mod FleetLaws
pub mod WalkLaws
pub mod SeasonLaws
pub mod AnswerLaws
pub mod BestLaws
pub mod EndsLaws
pub mod HoldsProved
