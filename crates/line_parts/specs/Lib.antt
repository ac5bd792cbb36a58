-- Words of public clauses
-- lines that are answered
pub mod Answered
-- one turn, and its parts
pub mod Turns
-- bytes that are pending, in several texts
pub mod Pending
-- what a sink gained
pub mod Fronts
-- Laws
-- the documents of lines, from the first one on
pub mod DocumentLaws
-- lines that are answered, and more lines behind them
pub mod AnsweredLaws
-- a part more behind lines that are answered
pub mod PartLaws
-- what several writes in a row do to a sink
pub mod SinkLaws
-- what a turn came to, and more of it
pub mod TurnLaws
