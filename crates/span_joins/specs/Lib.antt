-- what a join gives
pub mod Joins
-- laws of joins: equal bags, sides that change places, a filter over a product
pub mod JoinLaws
-- Not in any public clause: how a sweep answers, and what it gives
pub mod Answers
pub mod Sweeps
