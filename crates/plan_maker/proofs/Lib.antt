-- expressions that are made of a list
pub mod ExprViews
-- nodes that give rows, kind by kind
pub mod Giving
-- products of sources, and conditions that are tried early
pub mod Combining
-- queries that are made of a list
pub mod Queries
-- the forms of nodes, and how many there are
pub mod Sizes
-- views, one after another
pub mod Bases
-- numbers in their order, and columns
pub mod Numbers
-- conditions that are taken apart
pub mod Parting
-- plans that keep the outputs of lowered ones
pub mod MadePlans
-- conditions in plans whose nodes get other numbers
pub mod Keeping
-- and joins
pub mod Asking
-- plans without nodes that nobody reads
pub mod Dropping
-- selections and extractions, one node after another
pub mod Clauses
