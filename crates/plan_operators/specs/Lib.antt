-- Words of public clauses
-- what an operator is given
pub mod Given
-- the rows of nodes on a board
pub mod Boards
-- Words of private clauses
-- how often the nodes of a plan are read, and which of them wait
pub mod Readers
-- how a board is filled
pub mod Filling
-- rows with the number of a dictionary
pub mod DictNumbers
-- runs of tokens near the outer rows of a restricted join
pub mod Neighbourhoods
