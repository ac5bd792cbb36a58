-- values and rows
pub mod Datums
pub mod Rows
-- the orders of values and rows are total, and tell all apart
pub mod RowOrder
-- rows in row order, products and differences: laws
pub mod SortedRows
pub mod RowBags
-- what values and rows give to a hash function
pub mod Hashing
-- outputs
pub mod Outputs
