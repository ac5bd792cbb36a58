-- plans, and legal lists of events on a board
pub mod Doubled
pub mod EmptyLeft
pub mod Matched
