-- Words of public clauses
-- what the command words ask for
pub mod Words
-- what a call did to its objects
pub mod Devices
-- statuses and their lines on standard error
pub mod TypeTexts
pub mod Statuses
-- what was taken from the corpus, and how a run ends
pub mod Taken
pub mod Endings
-- what a program means
pub mod Run
-- what a program file holds, and its faults
pub mod Limits
pub mod ProgramTexts
pub mod ProgramFaults
-- the plan of a program
pub mod Plans
-- what is written in the modes that read no corpus
pub mod Modes
-- what is handed to the pool, and how it runs a program
pub mod Handing
pub mod PoolRuns
-- what the top call promises
pub mod Outcome
-- Laws of what is written for lines, and of a corpus in pieces
pub mod Pieces
-- Words of private clauses
-- orders as the code has them
pub mod Orders
-- what a plan gives for a document
pub mod Planned
-- what is read of a program file, and what it is compiled to
pub mod ProgramFile
pub mod Programs
-- a run under way
pub mod Progress
pub mod Turns
pub mod PoolTurns
pub mod Windows
-- what the stages of a call come to
pub mod Stages
pub mod Showings
