-- what an answer tells of the spans further on
pub mod AnswerLaws
-- rows in the order of their spans
pub mod OrderLaws
-- the steps of a test
pub mod StepLaws
-- the pairs of rows
pub mod SweepLaws
-- the join as it is defined
pub mod JoinLaws
-- what a sweep gives is the join
pub mod PairLaws
-- the tests of spans
pub mod Predicates
