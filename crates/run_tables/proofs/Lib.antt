-- lists of views in which one changes or comes
pub mod Views
-- the words of a table, and what seats know of them
pub mod Words
-- each step keeps the rule
pub mod Steps
-- what comes of the rows from which an item is computed
pub mod Computing
