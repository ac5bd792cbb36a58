-- Words of public clauses
-- the rows of views, and those of an output
pub mod RowLists
pub mod Outputs
-- Words of private clauses
-- what sources mean, with their widths
pub mod Sources
-- nested loops, and the conditions that are tried before each
pub mod Nests
