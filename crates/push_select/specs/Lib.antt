-- Words of public clauses
-- where conditions stand in a plan that is pushed
pub mod Pushed
-- laws of products, for this crate and those above
pub mod ProductLaws
-- Words of private clauses
-- conditions taken apart by the side that they read
pub mod Conditions
-- the join that a condition stands for
pub mod Joins
-- what nodes that take the place of others have
pub mod Replacing
