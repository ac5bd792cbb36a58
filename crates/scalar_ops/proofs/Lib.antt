-- a call is seen through the list of its arguments
pub mod Viewing
-- what is found of a pattern or a dictionary that may not be there
pub mod Extracting
-- tables may be shared by threads, and tools sent to one
pub mod Crosses
