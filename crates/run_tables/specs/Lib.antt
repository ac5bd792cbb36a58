-- Words of public clauses
-- what a seat knows, and what a step makes of it
pub mod Seats
-- the words of a table, and the lists of its seats
pub mod ClaimWords
-- results of items, and what an item may be computed from
pub mod Items
-- what watches know of cells
pub mod Cells
-- Words of private clauses
-- what a table of claims keeps between any two steps, and what each step tells
pub mod ClaimRule
-- the rows from which an item is computed
pub mod Inputs
