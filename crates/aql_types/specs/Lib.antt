-- ---- words of public clauses
-- queries and their sources
pub mod QueryTypings
pub mod Queries
-- programs: what `check` answers
pub mod Programs
-- ---- words of private clauses
-- what a refusal says of a program's faults
pub mod Refusals
-- how the code keeps parts without a fault
pub mod Sources
