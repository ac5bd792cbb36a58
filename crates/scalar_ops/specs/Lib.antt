-- Words of public clauses
pub mod Expressions
pub mod Views
pub mod Tables
pub mod Extractions
pub mod Operators
pub mod Values
pub mod Kinds
-- laws of them for the crates above
pub mod ReadingLaws
pub mod ValueLaws
pub mod SideLaws
pub mod KindLaws
-- Words of private clauses: how models keep terms, and what a worker keeps
pub mod Searchers
pub mod Codes
