pub mod TextLength
pub mod Values
-- how a line is read, with no tree of its value
mod Passing
mod PlainRuns
mod Flat
-- how a reader of lines comes to its answer
pub mod Windows
pub mod LastLf
pub mod UnderWay
-- what a run of a reader's calls gave, after one more answer
pub mod Givens
-- the members of an output line, as serde_json has them and as they are written
mod Objects
mod NameIndexLemmas
mod RowSpans
mod Sections
mod Texts
mod Views
-- the constants of the code are the limits of the definitions
mod LimitLaws
