-- lists
pub mod Splits
pub mod Once
-- names in trees with lists
pub mod NamesViews
-- what statements define, one after another
pub mod Defining
pub mod Refusing
-- what is looked up, one name after another
pub mod LookingUp
-- outputs, one after another
pub mod Outputting
-- the walk
pub mod Walking
-- the order, and the circle that is turned
pub mod Ranking
pub mod Turning
-- ranks or a circle, and the one order
pub mod Longest
pub mod Sorting
-- the relation of the program, and the answers
pub mod Creating
pub mod Following
pub mod Relations
pub mod Resolving
pub mod Deciding
-- what a graph finds
pub mod Finding
