-- nodes where they stand in a plan
pub mod Placing
-- nodes that are put together anew, one by one
pub mod Rebuilding
