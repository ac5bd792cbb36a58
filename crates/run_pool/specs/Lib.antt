-- Words of public clauses
-- what a plan gives for a document, as a line
pub mod Lines
-- what a pool answers
pub mod Answers
-- what was handed to a pool
pub mod Entries
-- Laws
-- lines of lists of rows that are the same bags
pub mod LineLaws
-- lines and sizes of answers, and lists that grow
pub mod PoolLaws
