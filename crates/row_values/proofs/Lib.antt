-- what a sort gives
pub mod Sorted
-- rows by the values that they keep
mod Kept
-- rows of the definitions
mod Examples
