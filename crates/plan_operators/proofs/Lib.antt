-- rows that are gone through one by one
pub mod Going
-- rows with the number of a dictionary
pub mod DictNumbering
-- where rows lie
pub mod Lying
-- the rows of nodes
pub mod Boards
-- sums over chosen numbers
pub mod Totals
-- which nodes read a node, and which wait
pub mod Reading
-- rows that are taken off a board
pub mod Taking
-- pairs of rows
pub mod Pairing
-- how the readers of nodes are counted
pub mod Scheduling
-- boards on which nodes wait
pub mod Standing
-- rows that a policy keeps
pub mod Keeping
-- how many elements of a list pass a test
pub mod Counting
-- the tokens of a text by their numbers
pub mod TokenNumbers
-- lists over numbers in a row
pub mod Numbers
-- runs of tokens near a span
pub mod Nearness
-- what is found from one token after another
pub mod Found
-- how far it reaches
pub mod Reached
-- tokens in stretches
pub mod StretchLemmas
-- which rows a join needs
pub mod Joined
-- what is put after the rows of a restricted join
pub mod Restricting
