-- expressions and nodes are read from their numbers
pub mod ExprViews
pub mod Pushing
pub mod ExprReading
pub mod NodeReading
-- kinds of nodes, and what they may read
pub mod KindLaws
-- a `Dict` node with one dictionary more, and what a part of it has
pub mod Widening
pub mod Parts
-- nodes that are found by their numbers
pub mod Finding
pub mod Extending
pub mod Indexing
pub mod Putting
-- nodes that are put together anew, and their outputs
pub mod Moving
-- walks from the outputs down, and the nodes that they lead to, put one after another
pub mod Walking
pub mod Arranging
pub mod Keeping
pub mod Rebuilding
pub mod Outputs
