-- lists without rows, and entries
pub mod Empty
