-- Words of public clauses
-- what a plan gives for a document, as a line
pub mod Lines
-- Words of private clauses
-- what each of several threads keeps
pub mod Hands
-- Laws
-- what the outputs of a plan show, by the rows that its nodes have
pub mod ShownLaws
