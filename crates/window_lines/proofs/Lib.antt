-- what the outputs of a plan show, by rows that are theirs
pub mod Sharing
-- what was handed to a pool
pub mod Handing
-- stretches of lists
pub mod Stretches
-- what is shared among threads, and sent to them
pub mod Crosses
