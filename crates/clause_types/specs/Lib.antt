-- ---- words of public clauses
-- faults in the order of checking, and what a refusal says of them
pub mod Faults
pub mod Refusals
-- the function table
pub mod Functions
-- the patterns and dictionaries of a program
pub mod Known
pub mod Knowns
-- what is said of expressions, items and names
pub mod Typings
pub mod Scopes
pub mod Views
pub mod Calls
pub mod Expressions
-- the parts of a query
pub mod Items
pub mod Keys
pub mod Clauses
pub mod Selections
pub mod Extractions
-- laws for the crates above
pub mod FaultLaws
pub mod FaultlessLaws
pub mod ReadingLaws
pub mod SelectionLaws
pub mod ExtractionLaws
-- ---- words of private clauses
-- how the code keeps parts without a fault
pub mod Callees
pub mod Parts
