-- The grammar: which tokens are those of an expression, a query, a statement.
pub mod Expressions
pub mod Extractions
pub mod Queries
pub mod Statements
