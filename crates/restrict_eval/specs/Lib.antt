-- Words of public clauses
-- joins that ask for their right input only where they need it, and look near their left rows for what can be found there
pub mod Restricting
-- what stands in the new plan for a node of the old one
pub mod Rebuilding
-- plans in which nothing is done twice
pub mod Keeping
-- which side of a product stands on its left
pub mod Turning
-- laws of them for the crates above
pub mod RebuildingLaws
pub mod TakenLaws
pub mod PruningLaws
-- Words of private clauses
-- what is looked for near the left rows of a join
pub mod Nears
-- who reads a node
pub mod Readers
-- what is put for a node
pub mod Putting
