-- Words of public clauses
-- the typed tree, and how definitions see that of the code
pub mod Trees
pub mod Views
-- what a view means on a document
pub mod Meaning
-- which outputs a program may have
pub mod Programs
-- which queries have a meaning without a gap: widths, columns and bounds
pub mod Fitting
-- laws of them for the crates above: nodes that are made of a list are seen through its elements
pub mod Nodes
-- laws of the meaning, for the crates above: it goes by the views that are named, and by bags alone
pub mod MeaningLaws
