-- what is found in a row: where it lies, and how wide its rows are
pub mod Finding
-- rows of groups that stand one after another
pub mod Cuts
-- what lies in the document
pub mod Lying
-- rows in row order
pub mod InOrder
-- rows that are searched for
pub mod Searching
-- rows that are moved
pub mod Moving
