-- ---- words of public clauses
-- what a program mentions, in the order of the text
pub mod Mentions
-- lists with each value once, and numbers in them
pub mod Numbers
-- what a text is as a pattern
pub mod Verdicts
-- the patterns and dictionaries of a program
pub mod Programs
-- laws of them for the crates above
pub mod VerdictLaws
-- ---- words of private clauses
pub mod Kept
