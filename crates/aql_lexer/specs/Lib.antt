-- tokens and their forms
pub mod Kinds
pub mod Tokens
-- readings of a text, and its fault
pub mod Reading
pub mod Fault
-- what the scanner finds at a place; no public clause cites these
pub mod Scanning
