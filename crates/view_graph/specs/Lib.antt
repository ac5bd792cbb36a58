-- ---- words of public clauses
-- names
pub mod Names
pub mod Faults
-- the graph of views
pub mod Graphs
pub mod Uses
-- what `resolve` answers
pub mod Answers
-- what a graph finds of a name
pub mod Found
-- ---- words of private clauses
-- how the code keeps names and walks
pub mod Mentions
pub mod Indexes
pub mod Lookups
pub mod Outputs
pub mod Search
pub mod Walks
pub mod Circles
pub mod Orders
pub mod Kept
