-- the node that has what is found
pub mod Finding
-- columns of what is found
pub mod Showing
-- who reads a node
pub mod Reading
-- which joins are left
pub mod Fates
-- what is looked for near the left rows of a join
pub mod Nearing
-- nodes that are put together anew
pub mod Growing
-- which nodes of the new plan are live
pub mod Living
-- which joins of the new plan are left
pub mod Leaving
-- the nodes that outputs show
pub mod Outputs
-- nodes that are equal in the new plan
pub mod Distinct
-- products with their sides turned
pub mod Sides
