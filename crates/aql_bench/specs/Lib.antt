-- the plan of items without a row
pub mod EmptyPlans
