-- Words of public clauses
-- what a search in a row looks for
pub mod Searches
-- laws for loops over rows
pub mod Passes
