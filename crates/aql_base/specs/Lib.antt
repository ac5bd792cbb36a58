-- ---- words of public clauses
-- bags
pub mod Bags
-- lists in order
pub mod Sorting
-- ---- laws for the crates above
-- bags: what they are kept by, and that counts decide them
pub mod BagLaws
pub mod CountLaws
-- the sorted list, and lists in order
pub mod SortingLaws
-- lists in which no value occurs twice
pub mod DistinctLists
