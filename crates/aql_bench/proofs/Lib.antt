-- the results of items without a row
pub mod EmptyItems
