-- ---- words of public clauses
-- groups of rows, and their aggregates
pub mod Groups
-- the first rows by some columns
pub mod Limits
-- ---- words of private clauses
-- how an aggregate is added up
pub mod Tallies
-- how the first rows are found
pub mod Candidates
-- ---- laws for the crates above
-- what relations and functions say of each other, and that both go by bags alone
pub mod Laws
pub mod LawProofs
