-- Words of public clauses
-- the documents of the generator
pub mod Sentences
pub mod Generator
-- documents as lines of a corpus
pub mod Corpora
-- what a sink gained of a text
pub mod Prefixes
-- the rows of a run, added up
pub mod Totals
pub mod Summaries
-- Words of private clauses
-- a line as it is written
pub mod Tokens
-- totals on the way to their summary
pub mod NamedTotals
