-- rows in row order, with their targets
pub mod RowOrders
pub mod PickedRows
pub mod InOrder
-- rows of the definitions, computed
mod Examples
