-- ---- words of public clauses
-- patterns: what a text means as a pattern, its whole-text form and its groups
pub mod Patterns
-- what a pattern finds
pub mod Matches
-- token-bounded patterns
pub mod TokenRuns
-- how large a pattern may grow
pub mod Weight
-- why a text is refused
pub mod Faults
-- ---- words of private clauses
-- what is told by bytes
pub mod ByteSets
pub mod Bytes
-- what contracts see of the compiled types
pub mod Views
-- what is searched, and one step of a search
pub mod Searches
pub mod Steps
pub mod Capped
-- ---- laws for the crates above
-- what relations and functions say of each other
pub mod Laws
pub mod LawProofs
