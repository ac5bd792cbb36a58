-- how large a corpus and its lines may be
pub mod Limits
-- the lines of the bytes that a corpus gave
pub mod Lines
-- what a reader of lines took and gave
pub mod Reading
-- a reader that holds its source
pub mod Readers
-- what a run of its calls gave so far
pub mod Given
-- how a reader puts a line together
pub mod Pieces
pub mod Moves
pub mod Window
-- documents
pub mod Documents
pub mod Inputs
-- how a line is read, with no tree of its value
pub mod Passing
pub mod Flat
-- output lines
pub mod Outputs
-- how an output line is written
pub mod Keys
pub mod NameIndexes
pub mod Sections
pub mod Writing
-- ---- laws for the crates above
-- how the lines of bytes are made up from the lines of their parts
pub mod LineLaws
