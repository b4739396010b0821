-- Laws about curves: the order of signed numbers, the straight line, the law of a curve and its ranges; and about the code: points in bytes, the value,
-- the tests, and what is laid.
pub mod OrderLaws
pub mod LineLaws
pub mod CurveProved
pub mod RangeLaws
pub mod PointLaws
pub mod LineFits
pub mod ValueLaws
pub mod RangeTests
pub mod LayLaws
