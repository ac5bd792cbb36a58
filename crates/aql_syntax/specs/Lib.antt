-- the tree
pub mod Trees
pub mod Lists
pub mod Views
pub mod Nodes
pub mod Naming
pub mod Sameness
-- tokens
pub mod Spellings
pub mod Parts
pub mod Places
pub mod PlacedTokens
-- the grammar
pub mod Grammar
pub mod Programs
-- the shape that each statement with tokens has
pub mod Shapes
pub mod ShapeLaws
-- the places of trees are right
pub mod PlaceLaws
-- expressions that are equal but for places
pub mod SamenessLaws
pub mod LawProofs
-- print
pub mod Printing
pub mod Printed
