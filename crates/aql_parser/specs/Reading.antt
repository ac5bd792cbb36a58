-- What the parser reads for each line of the grammar.
pub mod Expressions
pub mod Extractions
pub mod Queries
pub mod Statements
