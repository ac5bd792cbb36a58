-- Words of public clauses
-- plans without equal nodes, and with one `Dict` node for a column
pub mod Sharing
-- plans of which each node is read
pub mod Pruning
-- and in which what only a right side needs stands behind the left one
pub mod Ordering
-- plans whose nodes are those of another plan under other numbers
pub mod Renumbering
-- Words of private clauses
-- kinds of nodes, and nodes as lists of numbers
pub mod Kinds
pub mod ExprWords
pub mod Words
-- nodes that are found by their numbers, and how one more is put
pub mod Indexes
pub mod Putting
-- marks on nodes that are read, and plans of marked nodes
pub mod Marks
-- walks from the outputs down to what they need
pub mod Walks
