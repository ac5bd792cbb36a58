-- a plan that shows one node
pub mod Planning
-- the rows of a search
pub mod Matching
