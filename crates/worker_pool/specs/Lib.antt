-- Words of public clauses
-- what the evaluation of a plan on documents comes to
pub mod Evaluations
-- Words of private clauses
-- what is known of the nodes of a plan on one document
pub mod Pages
-- boards that are filled document by document
pub mod Filling
-- workers, and what they hold
pub mod Workers
