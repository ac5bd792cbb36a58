-- ---- words of public clauses
-- what a dictionary matches, and several
pub mod Dictionaries
pub mod DictMatches
pub mod Rows
-- ---- words of private clauses
-- the tree of all entries, the marks of its words, and how a pass keeps it
pub mod Marks
pub mod Tries
pub mod Passes
-- one step of a walk
pub mod Walks
-- ---- laws for the crates above
-- what relations and functions say of each other, and where matches lie
pub mod Laws
pub mod LawProofs
