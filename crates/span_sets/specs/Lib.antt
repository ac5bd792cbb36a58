-- ---- words of public clauses
-- which rows stay
pub mod Consolidation
-- the same as a function
pub mod KeptRows
-- runs of neighbouring spans
pub mod Blocks
-- ---- words of private clauses
-- what the sweeps work on
pub mod Candidates
-- rows with their numbers
pub mod Orders
-- ---- laws for the crates above
-- what relations and functions say of each other, and that both go by bags alone
pub mod Laws
pub mod LawProofs
