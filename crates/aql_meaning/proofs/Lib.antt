-- what is extracted, one row after another
pub mod Extracting
-- columns of keys and arguments
pub mod Columns
-- combinations of rows
pub mod Combining
-- rows that are lent to sources
pub mod Lending
-- queries that are made of a list
pub mod Queries
-- conditions that are tried early
pub mod Nesting
-- `And` and the conditions that it joins
pub mod Parting
