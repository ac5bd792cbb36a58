-- Words of public clauses
-- what a plan keeps of a typed program
pub mod Lowered
-- and what the plan by which it is run keeps of it
pub mod Shown
-- the form of that plan
pub mod Promised
-- the text of a plan
pub mod PlanTexts
-- Words of private clauses
-- what is known of the nodes that stand for queries
pub mod Grounds
