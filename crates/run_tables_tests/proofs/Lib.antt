-- the result of the one node of the tests' plan
pub mod DocumentPlans
-- the items of the plan with a join may be computed one after another
pub mod JoinedPlans
